use Rattle.std.proofs.Common.{◌∙◌, ◌++◌, ◌∷◌, [], sym, ap}
use Rattle.std.proofs.lemmas.List.{append_assoc}
use Rattle.std.proofs.lemmas.List.Elements.{All-push}
use Rattle.std.proofs.lemmas.Result.{err_from_is_err_and}
use Rattle.cedar_policy_set.specs.Validity.{IsValidBody}
use Rattle.cedar_policy_set.specs.laws.ListSteps.{first_fault}
use Rattle.cedar_policy_set.proofs.validate.validate_bodies.Goals as goal

pub loop-template-preserved : goal.loop-template-preserved
loop-template-preserved c =
    let t = c.in-Some.template.now in
    let before = c.loop-template.invariant in
    record {
      done = before.done ++ t ∷ [];
      is_part = append_assoc before.done (t ∷ []) c.next.new.self
          ∙ ap (λ ts. before.done ++ ts) (sym c.in-Some.ensures.steps) ∙ before.is_part;
      valid = All-push IsValidBody before.done t before.valid c.in_ok-validate_body.ensures.ok;
    }

pub returns-in_err-validate_body-clause-err : goal.returns-in_err-validate_body-clause-err
returns-in_err-validate_body-clause-err c =
    let p = err_from_is_err_and c.from_residual.result c.from_residual.ensures.1 in
    let before = c.loop-template.invariant in
    rw (p.1, p.2)
    (first_fault c.in_err-validate_body.field-0.0 before.done c.in-Some.template.now c.next.new.self c.args.bodies
    (ap (λ ts. before.done ++ ts) (sym c.in-Some.ensures.steps) ∙ before.is_part) before.valid
    c.in_err-validate_body.ensures.err)
