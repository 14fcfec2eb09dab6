use Rattle.std.proofs.lemmas.Result.{IfErr-weaker}
use Rattle.cedar_entities.proofs.store_valid.check_each.Goals as goal

pub returns-in-Some-clause-err : goal.returns-in-Some-clause-err
returns-in-Some-clause-err g c =
    IfErr-weaker c.validate.result _ _
    (λ e f. record { at = c.in-Some.entity.now; first = c.in-Some.ensures; fault = f }) c.validate.ensures.err
