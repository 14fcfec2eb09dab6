-- The order after a value is replaced.
use Rattle.std.proofs.Common.{◌≡◌, ◌∙◌, ◌<◌, ◌^◌, ℕ, zero, suc, Bool, true, false, nat_eq, List, [], ◌∷◌, ◌++◌}
use Rattle.std.proofs.Common.{length, None, Some, slice_get, refl, sym, ap, subst, arith, if◌then◌else◌}
use Rattle.std.specs.Cmp.{IsEquivalence}
use Rattle.std.specs.List.{IsDistinct}
use Rattle.std.specs.Map.{keys_of, values_of, lookup}
use Rattle.std.specs.Option.{option_map}
use Rattle.std.proofs.lemmas.Bool.{eqb-false, lt-ltb}
use Rattle.std.proofs.lemmas.Option.{none-some}
use Rattle.indexmap.specs.IndexMap.{set_value_at, insert_entry}
use Rattle.indexmap.specs.Layout.{length-set_value_at}
use Rattle.indexmap.proofs.MapLemmas.{absent_before}
use Rattle.cedar_linked_map.specs.declared.chain.Node.{Node}
use Rattle.cedar_linked_map.specs.Linked.{AreDistinct, IsOrder, AreLinked, Replaces, in_order, picked, cells}
use Rattle.cedar_linked_map.specs.Linked.{after_of, before_of}
use Rattle.cedar_linked_map.proofs.Nodes.{set_other, noted_kept}
use Rattle.cedar_linked_map.proofs.Orders.{split_at, apart_mid, picked_mid, picked_kept, some_below}
use Rattle.cedar_linked_map.proofs.Paths.{any_parts}
use Rattle.cedar_linked_map.proofs.Taken.{in_order_is, length_cells}
use Rattle.cedar_linked_map.proofs.Seen.{same_test, none_in_front}

set_at : {K X : Type 0} (es : List (K × X)) (i : ℕ) (e : K × X) (w : X) → slice_get es i ≡ Some e
    → slice_get (set_value_at es i w) i ≡ Some (e.0, w)
set_at [] i e w h = absurd (none-some e h)
set_at {K} {X} (x ∷ es) zero e w h = ap (option_map {T = K × X} {U = K × X} (λ p. (p.0, w))) h
set_at (x ∷ es) (suc i) e w h = set_at es i e w h

module _ {K V : Type 0} where
  pub cells-set_value_at : (ns : List (K × Node V)) (i : ℕ) (w : Node V)
      → cells (set_value_at ns i w) ≡ set_value_at (cells ns) i w.value
  cells-set_value_at [] i w = refl
  cells-set_value_at (e ∷ ns) zero w = refl
  cells-set_value_at (e ∷ ns) (suc i) w = ap (λ l. (e.0, e.1.value) ∷ l) (cells-set_value_at ns i w)

  pub values_seen : (ns : List (K × Node V)) (i : ℕ)
      → slice_get (values_of (cells ns)) i ≡ option_map (λ n. n.value) (slice_get (values_of ns) i)
  values_seen [] i = refl
  values_seen (e ∷ ns) zero = refl
  values_seen (e ∷ ns) (suc i) = values_seen ns i

  module _ (ns : List (K × Node V)) (first last i : ℕ) (v w : Node V) (at : slice_get (values_of ns) i ≡ Some v) (a :
      w.after ≡ v.after) (b : w.before ≡ v.before)
      (small : length ns < 2 ^ 63) (linked : AreLinked ns first last) where
    pub order_kept : IsOrder (length (set_value_at ns i w)) (after_of (set_value_at ns i w) first) (before_of
        (set_value_at ns i w) last) linked.0
    order_kept =
        let same_after : after_of (set_value_at ns i w) first
        ≡ after_of ns first = λ j u. noted_kept (λ n. n.after) first ns i v w u at a j in
        let same_before : before_of (set_value_at ns i w) last
        ≡ before_of ns last = λ j u. noted_kept (λ n. n.before) last ns i v w u at b j in
        subst (λ n. IsOrder n (after_of (set_value_at ns i w) first) (before_of (set_value_at ns i w) last) linked.0)
        (sym (length-set_value_at ns i w))
        (subst (λ A. IsOrder (length ns) A (before_of (set_value_at ns i w) last) linked.0) (sym same_after)
        (subst (λ B. IsOrder (length ns) (after_of ns first) B linked.0) (sym same_before) linked.1))

    pub replaced : i < length ns → Replaces (in_order ns first) i w.value (cells ns) (in_order (set_value_at ns i w)
        first)
    replaced within =
        let s = split_at i linked.0 (linked.1.has i ∙ lt-ltb i (length ns) within) in
        let apart = apart_mid s.0 i s.1 (subst AreDistinct s.2 linked.1.apart) in
        let none = any_parts (nat_eq i) s.0 s.1 apart.0 in
        let e = some_below (cells ns) i (omega (arith, within, length_cells ns)) in
        let same = λ (u : ℕ) (h : nat_eq i u ≡ false). set_other (cells ns) i u w.value (λ q. eqb-false i u h (sym
        q)) in
        let new = set_value_at (cells ns) i w.value in (
          picked (cells ns) s.0,
          e.0,
          picked (cells ns) s.1,
          in_order_is ns first last linked.0 small linked.1 ∙ ap (picked (cells ns)) s.2
              ∙ picked_mid (cells ns) s.0 i s.1 e.0 e.1,
          in_order_is (set_value_at ns i w) first last linked.0 (omega (arith, small, length-set_value_at ns i w))
              order_kept
              ∙ (λ j. picked (cells-set_value_at ns i w j) (s.2 j))
              ∙ picked_mid new s.0 i s.1 (e.0.0, w.value) (set_at (cells ns) i e.0 w.value e.1)
              ∙ (λ j. picked_kept (cells ns) new (nat_eq i) same s.0 none.0 j ++ (e.0.0, w.value) ∷ picked_kept
              (cells ns) new (nat_eq i) same s.1 none.1 j),
          e.1,
        )

-- An insertion with a key that is present.
module _ {K X : Type 0} {eq : K → K → Bool} (laws : IsEquivalence eq) (k : K) (v : X) where
  inserted_mid : (xs : List (K × X)) (e : K × X) (ys : List (K × X)) → lookup (eq k) xs ≡ None → eq k e.0 ≡ true
      → insert_entry eq (xs ++ e ∷ ys) k v ≡ xs ++ (e.0, v) ∷ ys
  inserted_mid [] e ys none same = ap (λ b. if b then (e.0, v) ∷ ys else e ∷ insert_entry eq ys k v) same
  inserted_mid (x ∷ xs) e ys none same =
      let parts = none_in_front (eq k) x xs none in
      ap (λ b. if b then (x.0, v) ∷ (xs ++ e ∷ ys) else x ∷ insert_entry eq (xs ++ e ∷ ys) k v) parts.0
      ∙ ap (λ l. x ∷ l) (inserted_mid xs e ys parts.1 same)

  pub put_mid : (es : List (K × X)) (e : K × X) (fs xs ys : List (K × X)) → IsDistinct eq (keys_of es)
      → es ≡ xs ++ e ∷ ys → fs ≡ xs ++ (e.0, v) ∷ ys
      → eq k e.0 ≡ true → fs ≡ insert_entry eq es k v
  put_mid es e fs xs ys unique is after same =
      let none = same_test (eq k) (eq e.0) (λ q. laws.congr k e.0 q same) xs
      ∙ absent_before laws xs ys e (subst (λ l. IsDistinct eq (keys_of l)) is unique) in
      after ∙ sym (ap (λ l. insert_entry eq l k v) is ∙ inserted_mid xs e ys none same)
