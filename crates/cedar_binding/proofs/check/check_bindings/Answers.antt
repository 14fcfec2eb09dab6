use Rattle.std.proofs.Common.{rules, ◌≡◌, Some, None, ap, refl, sym, ◌∙◌, ◌≢◌}
use Rattle.std.proofs.lemmas.Bool.{false≢true}
use Rattle.std.proofs.lemmas.Result.{err_from_is_err_and}
use Rattle.std.specs.Option.{option_copied, option_map}
use Rattle.cedar_ids.specs.UidOf.{uid_parts}
use Rattle.cedar_binding.specs.Bindings.{BindsExactly, wrong_action}
use Rattle.cedar_binding.specs.Views.{env_of}
use Rattle.cedar_binding.specs.laws.Fits.{fits, nothing_left_over}
use Rattle.cedar_binding.proofs.check.check_bindings.Goals as goal

pub returns-in_err-unbound_values : goal.returns-in_err-unbound_values
returns-in_err-unbound_values c =
    let p = err_from_is_err_and c.from_residual.result c.from_residual.ensures.1 in
    rw (p.1, p.2) (
      tt,
      λ f. c.in_err-unbound_values.ensures.err
          (nothing_left_over c.args.slots.now (env_of c.args.values.now) f.exactly).0,
    )

pub returns-then-not-are_empty : goal.returns-then-not-are_empty
returns-then-not-are_empty c =
    let apart : BindsExactly c.args.slots.now (env_of c.args.values.now) → ⊥ = λ f.
    let none = nothing_left_over c.args.slots.now (env_of c.args.values.now) f in
    false≢true ((rw c.if-not-are_empty.true at c.are_empty.ensures).1 (
      c.deref.ensures.value
          ∙ c.in_ok-unbound_values.ensures.ok ∙ none.0,
      c.deref-2.ensures.value ∙ c.in_ok-extra_values.ensures.ok
          ∙ none.1,
    )) in ((apart, c.in_ok-unbound_values.ensures.ok, c.in_ok-extra_values.ensures.ok), λ f. apart f.exactly)

pub returns-in-None : goal.returns-in-None
returns-in-None c =
    let empty = (rw c.if-not-are_empty.false at c.are_empty.ensures).0 refl in
    record {
      exactly = fits c.args.slots.now (env_of c.args.values.now)
          (sym c.in_ok-unbound_values.ensures.ok ∙ sym c.deref.ensures.value ∙ empty.0)
          (sym c.in_ok-extra_values.ensures.ok ∙ sym c.deref-2.ensures.value ∙ empty.1);
      action = sym c.wrong_action.ensures ∙ ap (λ o. option_map uid_parts (option_copied o)) c.in-None.is;
    }

pub returns : goal.returns
returns c =
    let empty = (rw c.if-not-are_empty.false at c.are_empty.ensures).0 refl in
    let copy : c.in_ok-clone-in-Some.field-0 ≡ c.in-Some.uid.now = search rules in
    let wrong : wrong_action (env_of c.args.values.now) ≡ Some (uid_parts c.in_ok-clone-in-Some.field-0) =
    sym c.wrong_action.ensures ∙ ap (λ o. option_map uid_parts (option_copied o)) c.in-Some.is
    ∙ ap (λ u. Some (uid_parts u)) (sym copy) in (
      (
        fits c.args.slots.now (env_of c.args.values.now)
            (sym c.in_ok-unbound_values.ensures.ok ∙ sym c.deref.ensures.value ∙ empty.0)
            (sym c.in_ok-extra_values.ensures.ok ∙ sym c.deref-2.ensures.value ∙ empty.1),
        wrong,
      ),
      λ f. let right = f.action in absurd (cc),
    )
