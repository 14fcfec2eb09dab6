use Rattle.std.proofs.lemmas.Result.{err_from_is_err_and}
use Rattle.cedar_c_trees.proofs.Pairs.{no_text_on_none}
use Rattle.cedar_c_trees.proofs.value_stack.popped_text.Goals as goal

pub returns-in_err-value : goal.returns-in_err-value
returns-in_err-value c =
    let p = err_from_is_err_and c.from_residual.result c.from_residual.ensures.1 in
    rw (p.1, p.2) (no_text_on_none c.args.stack.now.items _ c.in_err-value.ensures)
