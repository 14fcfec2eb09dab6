-- If no key passes a test, no key is equal to one that passes.
use Rattle.std.specs.List.{list_any}
use Rattle.std.specs.Set.{is_member}
use Rattle.std.proofs.Common.{◌≡◌, Bool, true, false, ◌||◌, List, [], ◌∷◌, refl, ap, sym, subst, ◌∙◌}
use Rattle.std.proofs.lemmas.Bool.{false≢true}

module _ {K : Type 0} (eq : K → K → Bool) (P : K → Bool) (alike : (x y : K) → eq x y ≡ true → P x ≡ P y) where
  step : (k q : K) (ks : List K) (a b c : Bool) → P k ≡ a → eq q k ≡ b → list_any P ks ≡ c → (a || c) ≡ false
      → (list_any P ks ≡ false → is_member eq ks q ≡ true → P q ≡ false) → (b || is_member eq ks q) ≡ true → P q ≡ false
  step k q ks true b c p e l none rest h = absurd (false≢true (sym none))
  step k q ks false true c p e l none rest h = alike q k e ∙ p
  step k q ks false false c p e l none rest h = rest (l ∙ none) h

  pub none_among : (ks : List K) → list_any P ks ≡ false → (q : K) → is_member eq ks q ≡ true → P q ≡ false
  none_among [] none q h = absurd (false≢true h)
  none_among (k ∷ ks) none q h =
      step k q ks (P k) (eq q k) (list_any P ks) refl refl refl none (λ n m. none_among ks n q m) h
