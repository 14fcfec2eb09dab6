use Rattle.std.proofs.Common.{ap, refl, subst}
use Rattle.std.proofs.lemmas.Result.{err_from_is_err_and}
use Rattle.cedar_entity_maps.specs.Plain.{StoreView}
use Rattle.cedar_entities.specs.StoreFaults.{AreAllValid, IsStoreFault}
use Rattle.cedar_entity_maps.specs.Modes.{IsSound}
use Rattle.cedar_entities.proofs.FirstFaults.{told_of_first}
use Rattle.cedar_entities.proofs.entities.Entities.try_validate.Goals as goal

pub returns-in_err-check_each-clause-err : goal.returns-in_err-check_each-clause-err
returns-in_err-check_each-clause-err g c =
    let is = ap (λ (s : StoreView). s.entities) c.self.view_is in
    let p = err_from_is_err_and c.from_residual-in_err-check_each.result c.from_residual-in_err-check_each.ensures.1 in
    rw (p.1, p.2) (subst (λ D. IsStoreFault D c.in_err-check_each.field-0.0) is
    (told_of_first _ c.in_err-check_each.field-0.0 c.in_ok-check.ensures.ok c.in_err-check_each.ensures.err))

pub returns-clause-ok : goal.returns-clause-ok
returns-clause-ok g c =
    let is = ap (λ (s : StoreView). s.entities) c.self.view_is in
    (refl, (subst IsSound is c.in_ok-check.ensures.ok, subst AreAllValid is c.in_ok-check_each.ensures.ok))
