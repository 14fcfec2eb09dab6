-- What the shared frame of the calls on handles shows, from what the call on the contents ensures.
use Rattle.std.specs.Prelude.{◌≡◌, ◌⊎◌, ℕ, Option, Some, None, Result, Ok, Err}
use Rattle.std.proofs.Common.{ap, sym, refl, subst, ◌∙◌, inl, inr, arith}
use Rattle.std.specs.Option.{IsSomeAnd}
use Rattle.cedar_c_lists.specs.Reasons.{number_of, status_of}
use Rattle.cedar_c_lists.specs.declared.reason.Reason.{Reason}
use Rattle.cedar_c_lists.specs.declared.reason.Reason.TheVariants.{NoMemory}
use Rattle.cedar_c.specs.Statuses.{ok}

-- The contents of an open handle were changed by a call with the effect P and the result r, and put back. W is what the
-- exported function does with the result.
pub put_back : {I H R : Type 0} {new : Option I} {i k j : I} (kept : I → H) (P : R → H → H → Type 0) (W : R → Type 0) (r : R)
    → k ≡ i → new ≡ Some j → W r → P r (kept k) (kept j)
    → (x : R) × W x × ((y : I) × (new ≡ Some y) × P x (kept i) (kept y))
put_back {j = j} kept P W r is put w p = (r, w, (j, put, subst (λ x. P r (kept x) (kept j)) is p))

-- A handle was not filled: there was no result. F is the effect on the handle.
pub filled_not : {H : Type 0} (F : Result H Reason → Type 0) (made : Result H Reason) (w : Reason) (n : ℕ) → n ≡ number_of w
    → (made ≡ Err w) ⊎ (w ≡ NoMemory) → F (Err w)
    → (r : Result H Reason) × (n ≡ status_of r) × F r × ((r ≡ made) ⊎ (r ≡ Err NoMemory))
filled_not F made w n status (inl is) same = (Err w, status, same, inl (sym is))
filled_not F made w n status (inr is) same = (Err w, status, same, inr (ap Err is))

-- A property of a result with which a handle is filled is a property of the contents of the handle.
pub holds : {I H : Type 0} (kept : I → H) (F : Result H Reason → Type 0) (P : H → Type 0) (k : H) (new : Option I) (n : ℕ)
    → (F (Ok k) → (j : I) × (new ≡ Some j) × (kept j ≡ k)) → P k
    → (r : Result H Reason) × (n ≡ status_of r) × F r × ((r ≡ Ok k) ⊎ (r ≡ Err NoMemory)) → n ≡ ok
    → IsSomeAnd new (λ i. P (kept i))
holds kept F P k new n fills so f zero = elim f.3 [
  | inl is ↦
      let g = fills (subst F is f.2) in
      subst (λ o. IsSomeAnd o (λ i. P (kept i))) (sym g.1) (subst P (sym g.2) so)
  | inr is ↦ absurd (omega (arith, sym zero ∙ f.1 ∙ ap status_of is))
]
