use Rattle.std.proofs.Common.{refl, sym, inl}
use Rattle.cedar_c_lists.specs.declared.reason.Reason.{Reason}
use Rattle.std.specs.Prelude.{Result, Ok}
use Rattle.cedar_c.specs.StoreCalls.{HandleState, IsFilled}
use Rattle.cedar_c.proofs.Frame.{filled_not}
use Rattle.cedar_c.proofs.store.fill.Goals as goal

pub returns-in-Err : goal.returns-in-Err
returns-in-Err c =
    filled_not (λ (r : Result HandleState Reason). IsFilled r c.args.handle.now.held.value c.args.handle.now.held.value)
    c.args.made c.in-Err.reason c.number.result c.number.ensures c.in-Err.ensures refl

pub returns-in-Ok : goal.returns-in-Ok
returns-in-Ok c = (Ok c.in-Ok.inner.value.kept, refl, (c.in-Ok.inner.value, c.opened.ensures, refl), inl (sym c.in-Ok.ensures))
