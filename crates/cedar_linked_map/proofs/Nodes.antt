-- The effect of a write to one entry on all entries.
use Rattle.std.proofs.Common.{◌≡◌, ◌∙◌, ℕ, zero, suc, Bool, true, false, nat_eq, List, [], ◌∷◌, map, Some, slice_get}
use Rattle.std.proofs.Common.{refl, sym, ap}
use Rattle.std.specs.Prelude.{if◌then◌else◌}
use Rattle.std.specs.Option.{option_map_or}
use Rattle.std.specs.Map.{values_of}
use Rattle.std.proofs.lemmas.Bool.{eqb-false, eqb-true, cond-true, cond-false}
use Rattle.std.proofs.lemmas.Option.{none-some, same_Some}
use Rattle.indexmap.specs.IndexMap.{set_value_at}
use Rattle.cedar_linked_map.specs.Linked.{end}

module _ {K X : Type 0} where
  -- Another entry does not change.
  pub set_other : (es : List (K × X)) (i u : ℕ) (w : X) → (u ≡ i → ⊥)
      → slice_get (set_value_at es i w) u ≡ slice_get es u
  set_other [] i u w ne = refl
  set_other (e ∷ es) zero zero w ne = absurd (ne refl)
  set_other (e ∷ es) zero (suc u) w ne = refl
  set_other (e ∷ es) (suc i) zero w ne = refl
  set_other (e ∷ es) (suc i) (suc u) w ne = set_other es i u w (λ h. ne (ap suc h))

  -- The entry has the written value.
  pub set_same : {A : Type 0} (f : X → A) (d : A) (es : List (K × X)) (i : ℕ) (v w : X)
      → slice_get (values_of es) i ≡ Some v
      → option_map_or (λ e. f e.1) (slice_get (set_value_at es i w) i) d ≡ f w
  set_same f d [] i v w p = absurd (none-some v p)
  set_same f d (e ∷ es) zero v w p = refl
  set_same f d (e ∷ es) (suc i) v w p = set_same f d es i v w p

  -- If a field is written with its old value, it does not change at any place.
  pub set_kept : {A : Type 0} (f : X → A) (d : A) (es : List (K × X)) (i : ℕ) (v w : X) (u : ℕ)
      → slice_get (values_of es) i ≡ Some v → f w ≡ f v
      → option_map_or (λ e. f e.1) (slice_get (set_value_at es i w) u) d ≡ option_map_or (λ e. f e.1) (slice_get es u) d
  set_kept f d [] i v w u p q = refl
  set_kept f d (e ∷ es) zero v w zero p q = q ∙ ap f (sym (same_Some e.1 v p))
  set_kept f d (e ∷ es) zero v w (suc u) p q = refl
  set_kept f d (e ∷ es) (suc i) v w zero p q = refl
  set_kept f d (e ∷ es) (suc i) v w (suc u) p q = set_kept f d es i v w u p q

  pub set_shown : {A : Type 0} (f : X → A) (es : List (K × X)) (i : ℕ) (v w : X)
      → slice_get (values_of es) i ≡ Some v → f w ≡ f v
      → map {B = K × A} (λ e. (e.0, f e.1)) (set_value_at es i w) ≡ map {B = K × A} (λ e. (e.0, f e.1)) es
  set_shown f [] i v w p q = refl
  set_shown {A} f (e ∷ es) zero v w p q = ap (λ (a : A). (e.0, a) ∷ map {B = K × A} (λ e. (e.0, f e.1)) es) (q
      ∙ ap f (sym (same_Some e.1 v p)))
  set_shown {A} f (e ∷ es) (suc i) v w p q = ap (λ l. (e.0, f e.1) ∷ l) (set_shown f es i v w p q)

  -- A number field of each entry, and a number for the end.
  abbrev pub noted : (X → ℕ) → ℕ → List (K × X) → ℕ → ℕ
  noted f x es u = if nat_eq u end then x else option_map_or (λ e. f e.1) (slice_get es u) 0

  pub noted_set : (f : X → ℕ) (x : ℕ) (es : List (K × X)) (i : ℕ) (v w : X) (u : ℕ)
      → slice_get (values_of es) i ≡ Some v → (i ≡ end → ⊥)
      → noted f x (set_value_at es i w) u ≡ (if nat_eq u i then f w else noted f x es u)
  noted_set f x es i v w u p ne = by (nat_eq u end) refl (nat_eq u i) refl
    where
      by : (b : Bool) → nat_eq u end ≡ b → (c : Bool) → nat_eq u i ≡ c
          → noted f x (set_value_at es i w) u ≡ (if nat_eq u i then f w else noted f x es u)
      by true h true k = absurd (ne (sym (eqb-true u i k) ∙ eqb-true u end h))
      by true h false k = cond-true (nat_eq u end) _ _ h ∙ sym (cond-false (nat_eq u i) _ _ k
          ∙ cond-true (nat_eq u end) _ _ h)
      by false h true k =
          cond-false (nat_eq u end) _ _ h
          ∙ ap (λ z. option_map_or (λ e. f e.1) (slice_get (set_value_at es i w) z) 0) (eqb-true u i k)
          ∙ set_same f 0 es i v w p ∙ sym (cond-true (nat_eq u i) _ _ k)
      by false h false k =
          cond-false (nat_eq u end) _ _ h
          ∙ ap (λ o. option_map_or (λ e. f e.1) o 0) (set_other es i u w (eqb-false u i k))
          ∙ sym (cond-false (nat_eq u i) _ _ k ∙ cond-false (nat_eq u end) _ _ h)

  pub noted_kept : (f : X → ℕ) (x : ℕ) (es : List (K × X)) (i : ℕ) (v w : X) (u : ℕ)
      → slice_get (values_of es) i ≡ Some v → f w ≡ f v
      → noted f x (set_value_at es i w) u ≡ noted f x es u
  noted_kept f x es i v w u p q = ap (λ o. if nat_eq u end then x else o) (set_kept f 0 es i v w u p q)

  -- The number for the end changes.
  pub noted_end : (f : X → ℕ) (x y : ℕ) (es : List (K × X)) (u : ℕ)
      → noted f y es u ≡ (if nat_eq u end then y else noted f x es u)
  noted_end f x y es u = by (nat_eq u end) refl
    where
      by : (b : Bool) → nat_eq u end ≡ b → noted f y es u ≡ (if nat_eq u end then y else noted f x es u)
      by true h = cond-true (nat_eq u end) _ _ h ∙ sym (cond-true (nat_eq u end) _ _ h)
      by false h = cond-false (nat_eq u end) _ _ h ∙ sym (cond-false (nat_eq u end) _ _ h
          ∙ cond-false (nat_eq u end) _ _ h)
