use Rattle.std.specs.Ordering.{is_ge, is_lt}
use Rattle.std.proofs.Common.{◌≡◌, ◌+◌, ◌-◌, ◌<◌, ◌≤◌, ℕ, Some, Less, true, false, inl, inr, arith, ap, sym, subst, get_or, length, slice_get, ◌∙◌}
use Rattle.std.proofs.lemmas.Bool.{cases_eq, cases_lt}
use Rattle.std.proofs.lemmas.Option.{slice_get-get_or}
use Rattle.cedar_ids.specs.UidOf.{uid_order}
use Rattle.cedar_ids.specs.declared.entity.EntityUID.{EntityUID}
use Rattle.cedar_ids.specs.laws.UidOfLaws.{uid_order_total}
use Rattle.cedar_entity.specs.laws.Views.{uid_precedes}
use Rattle.cedar_entity.proofs.AscendingUids.{less_if_lt, less_unless_ge}
use Rattle.cedar_entity.proofs.shared_node.ascend_at.Goals as goal

pub loop-k-preserved : goal.loop-k-preserved
loop-k-preserved c =
    let keys = c.args.keys.now in
    let numbers = c.args.numbers.now in
    let k = c.loop-k.k in
    let inv = c.loop-k.invariant in
    let some : 1 ≤ k = inv.some in
    let prev = c.index-keys-numbers.result in
    let next = c.index-keys-numbers-in-loop-k.result in
    let prev_in : get_or numbers (k - 1) 0 < length keys = c.requires (k - 1) (omega (arith, some)) in
    let next_in : get_or numbers k 0 < length keys = c.requires k (omega arith) in
    let got_prev : slice_get keys (get_or numbers (k - 1) 0) ≡ Some prev =
    slice_get-get_or keys (get_or numbers (k - 1) 0) prev prev_in ∙ ap Some (sym c.index-keys-numbers.is) in
    let got_next : slice_get keys (get_or numbers k 0) ≡ Some next =
    slice_get-get_or keys (get_or numbers k 0) next next_in ∙ ap Some (sym c.index-keys-numbers-in-loop-k.is) in
    let less : uid_order prev next ≡ Less =
    less_unless_ge (uid_order prev next) (ap is_ge (sym c.cmp.ensures) ∙ sym c.is_ge.ensures ∙ c.if-is_ge.false) in
    record {
      some = omega arith;
      ascend = λ i j x y lt le g h. elim (cases_lt j k) [
        | inl inside ↦ inv.ascend i j x y lt inside g h
        | inr over ↦
            let last : j ≡ k = omega (arith, le, over) in
            let at_y : slice_get keys (get_or numbers k 0) ≡ Some y =
            subst (λ n. slice_get keys (get_or numbers n 0) ≡ Some y) last h in
            let y_is : next ≡ y = cc in
            let goes : uid_precedes x next ≡ true = elim (cases_eq i (k - 1)) [
              | inl here ↦
                  let at_x : slice_get keys (get_or numbers (k - 1) 0) ≡ Some x =
                  subst (λ n. slice_get keys (get_or numbers n 0) ≡ Some x) here g in
                  let x_is : prev ≡ x = cc in
                  subst (λ z. uid_precedes z next ≡ true) x_is (ap is_lt less)
              | inr before ↦
                  let first = inv.ascend i (k - 1) x prev (omega (arith, lt, last, before)) (omega (arith, some)) g got_prev in
                  ap is_lt (uid_order_total.trans x prev next (less_if_lt (uid_order x prev) first) less)
            ] in
            subst (λ z. uid_precedes x z ≡ true) y_is goes
      ];
    }
