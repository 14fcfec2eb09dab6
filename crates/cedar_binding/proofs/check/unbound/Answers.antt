use Rattle.std.proofs.Common.{arith, ◌≡◌, false, sym, ap, ◌∙◌, not}
use Rattle.std.proofs.lemmas.Result.{err_from_is_err_and}
use Rattle.cedar_binding.specs.Bindings.{binds}
use Rattle.cedar_binding.specs.Views.{env_of}
use Rattle.cedar_binding.proofs.Passing.{one_left}
use Rattle.cedar_binding.proofs.check.unbound.Goals as goal

pub returns-in_err-push-clause-err : goal.returns-in_err-push-clause-err
returns-in_err-push-clause-err c =
    let p = err_from_is_err_and c.from_residual.result c.from_residual.ensures.1 in
    let off : binds (env_of c.args.values.now) c.slot-item.result ≡ false = cc in
    rw p.1
    (λ none. one_left (λ s. not (binds (env_of c.args.values.now) s)) c.args.slots.now c.loop-slot.slot-index
    c.slot-item.result (omega arith) c.slot-item.is (ap not off) none)
