use Rattle.cedar_c_stores.proofs.Editing.{edited_for_memory}
use Rattle.cedar_c_stores.proofs.edits.edit_copied.Goals as goal

pub returns-in_err-copy : goal.returns-in_err-copy
returns-in_err-copy g c =
    edited_for_memory c.args.mode c.args.edit c.args.store.now c.from_residual.result c.from_residual.ensures.1
