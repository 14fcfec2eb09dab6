-- The order after a value is written through a mutable reference.
use Rattle.std.proofs.Common.{◌≡◌, ◌∙◌, ◌<◌, ℕ, zero, suc, Bool, true, false, cond, List, [], ◌∷◌, ◌++◌, length}
use Rattle.std.proofs.Common.{Option, None, Some, IsSome, slice_get, refl, sym, ap, subst, arith, true≢false}
use Rattle.std.specs.Cmp.{IsEquivalence}
use Rattle.std.specs.List.{IsDistinct}
use Rattle.std.specs.Map.{keys_of, values_of, lookup, set_value, IsKeyTest}
use Rattle.std.specs.Option.{option_map}
use Rattle.std.proofs.lemmas.Option.{none-some, same_Some}
use Rattle.indexmap.specs.IndexMap.{IndexMap, set_value_at, with_entries, with_value_at, hasher_of, spare, UpdatesBy}
use Rattle.indexmap.specs.IndexMap.{IsUnique, WritesThrough}
use Rattle.indexmap.proofs.CallerLemmas.{updates-with_value_at}
use Rattle.indexmap.proofs.MapLemmas.{absent_before}
use Rattle.cedar_linked_map.proofs.Seen.{same_test, none_in_front}

-- The place of the first key that passes a test, and the effect of a write at the place.
pub record Place {K X : Type 0} (t : K → Bool) (es : List (K × X)) (v : X) : Type 0 where
  pub at : ℕ
  pub within : at < length es
  pub value : slice_get (values_of es) at ≡ Some v
  pub writes : (w : X) → set_value t es w ≡ set_value_at es at w
  pub passes : (k : K) → slice_get (keys_of es) at ≡ Some k → t k ≡ true

pub place : {K X : Type 0} (t : K → Bool) (es : List (K × X)) (v : X) → lookup t es ≡ Some v → Place t es v
place t [] v h = absurd (none-some v h)
place {K} {X} t (e ∷ es) v h = by (t e.0) refl h (place t es v)
  where
    by : (b : Bool) → t e.0 ≡ b → cond b (Some e.1) (lookup t es) ≡ Some v → (lookup t es ≡ Some v
        → Place t es v) → Place t (e ∷ es) v
    by true y g rest = record {
      at = 0;
      within = omega arith;
      value = g;
      writes = λ w. ap (λ b. cond b ((e.0, w) ∷ es) (e ∷ set_value t es w)) y;
      passes = λ k q. ap t (sym (same_Some e.0 k q)) ∙ y;
    }
    by false y g rest =
        let p = rest g in
        record {
          at = suc p.at;
          within = omega (arith, p.within);
          value = p.value;
          writes = λ w. ap (λ b. cond b ((e.0, w) ∷ es) (e ∷ set_value t es w)) y ∙ ap (λ l. e ∷ l) (p.writes w);
          passes = p.passes;
        }

module _ {K X : Type 0} (t : K → Bool) where
  pub keys-set_value : (es : List (K × X)) (w : X) → keys_of (set_value t es w) ≡ keys_of es
  keys-set_value [] w = refl
  keys-set_value (e ∷ es) w = by (t e.0) (keys-set_value es w)
    where
      by : (b : Bool) → keys_of (set_value t es w) ≡ keys_of es
          → keys_of (cond b ((e.0, w) ∷ es) (e ∷ set_value t es w)) ≡ e.0 ∷ keys_of es
      by true h = refl
      by false h = ap (λ l. e.0 ∷ l) h

  pub length-set_value : (es : List (K × X)) (w : X) → length (set_value t es w) ≡ length es
  length-set_value [] w = refl
  length-set_value (e ∷ es) w = by (t e.0) (length-set_value es w)
    where
      by : (b : Bool) → length (set_value t es w) ≡ length es
          → length (cond b ((e.0, w) ∷ es) (e ∷ set_value t es w)) ≡ suc (length es)
      by true h = refl
      by false h = ap suc h

  set_mid : (xs : List (K × X)) (e : K × X) (ys : List (K × X)) (w : X) → lookup t xs ≡ None → t e.0 ≡ true
      → set_value t (xs ++ e ∷ ys) w ≡ xs ++ (e.0, w) ∷ ys
  set_mid [] e ys w none passes = ap (λ b. cond b ((e.0, w) ∷ ys) (e ∷ set_value t ys w)) passes
  set_mid (x ∷ xs) e ys w none passes =
      let parts = none_in_front t x xs none in
      ap (λ b. cond b ((x.0, w) ∷ (xs ++ e ∷ ys)) (x ∷ set_value t (xs ++ e ∷ ys) w)) parts.0
      ∙ ap (λ l. x ∷ l) (set_mid xs e ys w parts.1 passes)

  pub written_mid : {eq : K → K → Bool} → IsEquivalence eq → IsKeyTest eq t
      → (es : List (K × X)) (e : K × X) (fs xs ys : List (K × X)) (w : X) → IsDistinct eq (keys_of es)
      → es ≡ xs ++ e ∷ ys → fs ≡ xs ++ (e.0, w) ∷ ys → t e.0 ≡ true → fs ≡ set_value t es w
  written_mid {eq} laws key es e fs xs ys w unique is after passes =
      let none = same_test t (eq e.0) (λ k. key e.0 k passes) xs
      ∙ absent_before laws xs ys e (subst (λ l. IsDistinct eq (keys_of l)) is unique) in
      after ∙ sym (ap (λ l. set_value t l w) is ∙ set_mid xs e ys w none passes)

  -- A write to the value of a key changes only the result of looking this key up.
  pub written_updates : {S : Type 0} {eq : K → K → Bool} → IsEquivalence eq → IsKeyTest eq t
      → (m : IndexMap K X S) (w : X) → IsUnique eq m
      → (v : X) → lookup t m.entries ≡ Some v → UpdatesBy eq t m (with_entries m (set_value t m.entries w)) (Some w)
  written_updates {S} {eq} laws key m w unique v found =
      let p = place t m.entries v found in
      let e = entry_at m.entries p.at p.within in
      let passes : t e.0.0 ≡ true = p.passes e.0.0 (key_of m.entries p.at e.0 e.1) in
      let same : eq e.0.0 ≡ t = λ j y. sym (key e.0.0 y passes) j in
      subst (λ l. UpdatesBy eq t m (with_entries m l) (Some w)) (sym (p.writes w))
      (subst (λ q. UpdatesBy eq q m (with_value_at m p.at w) (Some w)) same (updates-with_value_at m p.at w laws
      unique e.0.0 e.0.1 e.1))
    where
      entry_at : (es : List (K × X)) (i : ℕ) → i < length es → (e : K × X) × (slice_get es i ≡ Some e)
      entry_at [] i h = absurd (omega (arith, h))
      entry_at (x ∷ es) zero h = (x, refl)
      entry_at (x ∷ es) (suc i) h = entry_at es i (omega (arith, h))

      key_of : (es : List (K × X)) (i : ℕ) (e : K × X) → slice_get es i ≡ Some e → slice_get (keys_of es) i ≡ Some e.0
      key_of [] i e h = absurd (none-some e h)
      key_of (x ∷ es) zero e h = ap (option_map (λ p. p.0)) h
      key_of (x ∷ es) (suc i) e h = key_of es i e h

  pub set_none : (es : List (K × X)) (w : X) → lookup t es ≡ None → set_value t es w ≡ es
  set_none [] w none = refl
  set_none (e ∷ es) w none =
      let parts = none_in_front t e es none in
      ap (λ b. cond b ((e.0, w) ∷ es) (e ∷ set_value t es w)) parts.0 ∙ ap (λ l. e ∷ l) (set_none es w parts.1)

  some_value : (o : Option X) → IsSome o → (v : X) × (o ≡ Some v)
  some_value None h = absurd (true≢false (sym h))
  some_value (Some v) h = (v, refl)

  pub written : {S : Type 0} {eq : K → K → Bool} → IsEquivalence eq → IsKeyTest eq t
      → (m n : IndexMap K X S) (w : X) → IsUnique eq m
      → n.entries ≡ set_value t m.entries w → hasher_of n ≡ hasher_of m → spare n ≡ spare m → WritesThrough eq t m w n
  written {S} {eq} laws key m n w unique e h s = (
    e,
    ap keys_of e ∙ keys-set_value m.entries w,
    ap length e ∙ length-set_value m.entries w,
    (λ some. (
        let v = some_value (lookup t m.entries) some in
        subst (λ l. UpdatesBy eq t m (with_entries m l) (Some w)) (sym e) (written_updates laws key m w unique v.0 v.1)
        )),
    subst (IsDistinct eq) (sym (ap keys_of e ∙ keys-set_value m.entries w)) unique,
    h,
    s,
  )
