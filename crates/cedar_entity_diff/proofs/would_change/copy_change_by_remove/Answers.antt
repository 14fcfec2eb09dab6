use Rattle.std.proofs.Common.{Err, Ok}
use Rattle.cedar_entity_diff.specs.WouldChange.{IsRemoveResult}
use Rattle.cedar_entity_diff.proofs.EditResults.{error_of, remove_result}
use Rattle.cedar_entity_diff.proofs.would_change.copy_change_by_remove.Goals as goal

pub returns-in_err-edited : goal.returns-in_err-edited
returns-in_err-edited g c =
    let S = c.args.store.now in
    let e = c.in_err-edited.field-0.0 in
    error_of S (IsRemoveResult c.args.tc_computation S c.args.list.items) c.from_residual-in_err-edited.result e
    c.from_residual-in_err-edited.ensures.1
    (remove_result c.args.tc_computation S c.args.list.items c.in_ok-copy.copy c.in_ok-copy.ensures.cases (Err e)
    c.in_err-edited.ensures.partial c.in_err-edited.ensures.removes c.in_err-edited.ensures.plain)

pub returns : goal.returns
returns g c = (
  c.in_ok-edited.edited,
  remove_result c.args.tc_computation c.args.store.now c.args.list.items c.in_ok-copy.copy
      c.in_ok-copy.ensures.cases (Ok c.in_ok-edited.edited) c.in_ok-edited.ensures.partial
      c.in_ok-edited.ensures.removes c.in_ok-edited.ensures.plain,
  c.in_ok-diff.ensures,
)
