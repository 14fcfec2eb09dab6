use Rattle.std.proofs.Common.{subst, sym}
use Rattle.cedar_entity_maps.specs.Affected.{inserted_in}
use Rattle.cedar_entity_maps.specs.Plain.{StoreView, entities_in}
use Rattle.cedar_entity_maps.specs.declared.modes.TCComputation.TheVariants.{ComputeNow}
use Rattle.cedar_entity_diff.specs.Diffs.{IsDiff}
use Rattle.cedar_entity_diff.specs.WouldChange.{IsAddResult}
use Rattle.cedar_entity_diff.specs.laws.Parts.{IsEditPart}
use Rattle.cedar_entity_diff.proofs.AddParts.{add_change, add_error}
use Rattle.cedar_entity_diff.proofs.EditResults.{error_of}
use Rattle.cedar_entity_diff.proofs.would_change.part_change_by_add.Goals as goal

pub returns-in_err-edited : goal.returns-in_err-edited
returns-in_err-edited g c =
    let S = c.args.store.now in
    let L = entities_in c.args.list.items in
    let e = c.in_err-edited.field-0.0 in
    error_of S (IsAddResult ComputeNow S L) c.from_residual-in_err-edited.result e
    c.from_residual-in_err-edited.ensures.1
    (add_error S L c.in_ok-copy.copy
    (subst (IsEditPart S (inserted_in S.entities L) L) (sym c.in_ok-copy.ensures.cases)
    (subst (λ l. IsEditPart S (inserted_in S.entities (entities_in l)) (entities_in l) c.in_ok-part.part) c.deref.ensures.value
    c.in_ok-part.ensures.ok))
    c.requires.list e c.in_err-edited.ensures.adds c.in_err-edited.ensures.plain)

pub returns : goal.returns
returns g c =
    let S = c.args.store.now in
    let L = entities_in c.args.list.items in
    let same = sym c.in_ok-copy.ensures.cases in
    add_change S L c.in_ok-copy.copy
    (subst (IsEditPart S (inserted_in S.entities L) L) same
    (subst (λ l. IsEditPart S (inserted_in S.entities (entities_in l)) (entities_in l) c.in_ok-part.part) c.deref.ensures.value
    c.in_ok-part.ensures.ok))
    c.requires.list c.in_ok-edited.edited c.in_ok-edited.ensures.adds c.in_ok-edited.ensures.plain c.requires.plain
    c.in_ok-edited.ensures.partial c.in_ok-diff.field-0
    (subst (λ (n : StoreView). IsDiff n c.in_ok-edited.edited c.in_ok-diff.field-0) same c.in_ok-diff.ensures)
