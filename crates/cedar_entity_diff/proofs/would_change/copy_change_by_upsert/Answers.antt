use Rattle.std.proofs.Common.{Err, Ok}
use Rattle.cedar_entity_maps.specs.Plain.{entities_in}
use Rattle.cedar_entity_diff.specs.WouldChange.{IsUpsertResult}
use Rattle.cedar_entity_diff.proofs.EditResults.{error_of, upsert_result}
use Rattle.cedar_entity_diff.proofs.would_change.copy_change_by_upsert.Goals as goal

pub returns-in_err-edited : goal.returns-in_err-edited
returns-in_err-edited g c =
    let S = c.args.store.now in
    let L = entities_in c.args.list.items in
    let e = c.in_err-edited.field-0.0 in
    error_of S (IsUpsertResult c.args.tc_computation S L) c.from_residual-in_err-edited.result e
    c.from_residual-in_err-edited.ensures.1
    (upsert_result c.args.tc_computation S L c.in_ok-copy.copy c.in_ok-copy.ensures.cases (Err e)
    c.in_err-edited.ensures.partial c.in_err-edited.ensures.upserts
    c.in_err-edited.ensures.strips c.in_err-edited.ensures.plain)

pub returns : goal.returns
returns g c = (
  c.in_ok-edited.edited,
  upsert_result c.args.tc_computation c.args.store.now (entities_in c.args.list.items) c.in_ok-copy.copy
      c.in_ok-copy.ensures.cases (Ok c.in_ok-edited.edited) c.in_ok-edited.ensures.partial
      c.in_ok-edited.ensures.upserts c.in_ok-edited.ensures.strips
      c.in_ok-edited.ensures.plain,
  c.in_ok-diff.ensures,
)
