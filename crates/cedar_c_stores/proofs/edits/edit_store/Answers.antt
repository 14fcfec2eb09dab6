use Rattle.cedar_c_stores.proofs.Editing.{plain_after}
use Rattle.cedar_c_stores.proofs.edits.edit_store.Goals as goal

pub edit_plain-requires-clause-plain : goal.edit_plain-requires-clause-plain
edit_plain-requires-clause-plain g c = c.requires.plain c.if-plain.true

pub returns-then-plain-clause-stays : goal.returns-then-plain-clause-stays
returns-then-plain-clause-stays g c =
    plain_after c.args.mode c.args.edit c.args.store.now c.edit_plain.new.store c.args.plain
    (c.requires.keeps c.if-plain.true) (c.requires.plain c.if-plain.true) c.edit_plain.result c.edit_plain.ensures
