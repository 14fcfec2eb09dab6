use Rattle.std.proofs.Common.{List, refl, subst, ℕ}
use Rattle.std.proofs.lemmas.Result.{err_from_is_err_and}
use Rattle.cedar_c_sets.specs.Scopes.{EncodesScope}
use Rattle.cedar_c_sets.proofs.Found.{scope_untold}
use Rattle.cedar_c_sets.proofs.set_state.SetState.scope.Goals as goal

pub returns : goal.returns
returns g c = (
  c.in_ok-id.ensures.0,
  (
    refl,
    refl,
    refl,
    subst (λ (n : List ℕ). EncodesScope c.args.which c.args.self.now.set n c.in_ok-kind.kind c.in_ok-kind.texts)
        c.in_ok-id.ensures.1 c.in_ok-kind.ensures,
  ),
)

pub returns-in_err-kind : goal.returns-in_err-kind
returns-in_err-kind g c =
    let p = err_from_is_err_and c.from_residual-in_err-kind.result c.from_residual-in_err-kind.ensures.1 in
    rw (p.1, p.2) (
      refl,
      scope_untold c.args.which c.args.self.now.set c.in_ok-id.id c.args.id.now _ c.in_ok-id.ensures.1
          c.in_ok-id.ensures.0 c.in_err-kind.ensures,
    )
