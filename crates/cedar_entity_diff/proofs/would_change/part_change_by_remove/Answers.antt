use Rattle.std.proofs.Common.{subst, sym}
use Rattle.cedar_entity_maps.specs.Affected.{removed_from}
use Rattle.cedar_entity_maps.specs.Plain.{StoreView}
use Rattle.cedar_entity_maps.specs.declared.modes.TCComputation.TheVariants.{ComputeNow}
use Rattle.cedar_entity_diff.specs.Diffs.{IsDiff}
use Rattle.cedar_entity_diff.specs.WouldChange.{IsRemoveResult}
use Rattle.cedar_entity_diff.specs.laws.Parts.{IsPartAt}
use Rattle.cedar_entity_diff.proofs.RemoveParts.{remove_change, remove_error}
use Rattle.cedar_entity_diff.proofs.EditResults.{error_of}
use Rattle.cedar_entity_diff.proofs.would_change.part_change_by_remove.Goals as goal

pub returns-in_err-edited : goal.returns-in_err-edited
returns-in_err-edited g c =
    let S = c.args.store.now in
    let us = c.args.list.items in
    let e = c.in_err-edited.field-0.0 in
    error_of S (IsRemoveResult ComputeNow S us) c.from_residual-in_err-edited.result e
    c.from_residual-in_err-edited.ensures.1
    (remove_error S us c.in_ok-copy.copy
    (subst (IsPartAt S us (removed_from S.entities us)) (sym c.in_ok-copy.ensures.cases)
    (subst (λ l. IsPartAt S l (removed_from S.entities l) c.in_ok-part.part) c.deref.ensures.value c.in_ok-part.ensures.ok))
    c.requires.plain e c.in_err-edited.ensures.plain)

pub returns : goal.returns
returns g c =
    let S = c.args.store.now in
    let us = c.args.list.items in
    let same = sym c.in_ok-copy.ensures.cases in
    remove_change S us c.in_ok-copy.copy
    (subst (IsPartAt S us (removed_from S.entities us)) same
    (subst (λ l. IsPartAt S l (removed_from S.entities l) c.in_ok-part.part) c.deref.ensures.value c.in_ok-part.ensures.ok))
    c.in_ok-edited.edited
    c.in_ok-edited.ensures.removes c.in_ok-edited.ensures.plain c.requires.plain c.in_ok-edited.ensures.partial
    c.in_ok-diff.field-0
    (subst (λ (n : StoreView). IsDiff n c.in_ok-edited.edited c.in_ok-diff.field-0) same c.in_ok-diff.ensures)
