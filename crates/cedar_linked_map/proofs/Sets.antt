-- The keys of a map as a set.
use Rattle.std.proofs.Common.{◌≡◌, ◌∙◌, Bool, true, false, cond, not, ◌||◌, List, [], ◌∷◌, ◌++◌, map, None, Some}
use Rattle.std.proofs.Common.{is_some, refl, sym, ap, subst}
use Rattle.std.specs.Cmp.{IsEquivalence}
use Rattle.std.specs.List.{list_any, AllZip, IsDistinct}
use Rattle.std.specs.Map.{keys_of, lookup}
use Rattle.indexmap.proofs.MapLemmas.{absent_before}

-- A lookup finds a key that is among the keys.
pub is_some_any : {K X : Type 0} (t : K → Bool) (es : List (K × X)) → is_some (lookup t es) ≡ list_any t (keys_of es)
is_some_any t [] = refl
is_some_any t (e ∷ es) = by (t e.0) (is_some_any t es)
  where
    by : (b : Bool) → is_some (lookup t es) ≡ list_any t (keys_of es)
        → is_some (cond b (Some e.1) (lookup t es)) ≡ (b || list_any t (keys_of es))
    by true h = refl
    by false h = h

module _ {K : Type 0} where
  units : List K → List (K × Unit {0})
  units ks = map (λ k. (k, tt)) ks

  keys_units : (ks : List K) → keys_of (units ks) ≡ ks
  unfolding units
  keys_units [] = refl
  keys_units (k ∷ ks) = ap (λ l. k ∷ l) (keys_units ks)

  pub keys-append : {X : Type 0} (es fs : List (K × X)) → keys_of (es ++ fs) ≡ keys_of es ++ keys_of fs
  keys-append [] fs = refl
  keys-append (e ∷ es) fs = ap (λ l. e.0 ∷ l) (keys-append es fs)

  -- A key of a set that comes after some keys is not among these.
  pub absent_value : {eq : K → K → Bool} → IsEquivalence eq → (es : List (K × Unit {0})) (k : K) (ks : List K)
      → IsDistinct eq (keys_of es ++ k ∷ ks) → lookup (eq k) es ≡ None
  absent_value {eq} laws es k ks h =
      absent_before laws es (units ks) (k, tt)
      (subst (IsDistinct eq) (sym (keys-append es ((k, tt) ∷ units ks)
      ∙ ap (λ l. keys_of es ++ k ∷ l) (keys_units ks))) h)

-- The keys of a copy are copies of the keys.
pub clones_seen : {K X : Type 0} (C : K → K → Type 0) (D : X → X → Type 0) (es fs : List (K × X))
    → AllZip (λ p q. C p.0 q.0 × D p.1 q.1) es fs → AllZip C (keys_of es) (keys_of fs)
clones_seen C D [] [] h = tt
clones_seen C D [] (f ∷ fs) h = absurd h
clones_seen C D (e ∷ es) [] h = absurd h
clones_seen C D (e ∷ es) (f ∷ fs) h = (h.0.0, clones_seen C D es fs h.1)

-- A truth value from its negation.
pub from_not : (r b : Bool) → b ≡ not r → r ≡ not b
from_not true b e = ap not (sym e)
from_not false b e = ap not (sym e)
