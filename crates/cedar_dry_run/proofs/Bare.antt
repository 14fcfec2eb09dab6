-- The first uid of a set, and properties of all elements of a list.
use Rattle.std.specs.Prelude.{◌≡◌, ◌↔◌, Bool, true, false, not, List, [], ◌∷◌, Option, Some, None, MatchOption, map}
use Rattle.std.proofs.Common.{ℕ, zero, suc, ◌<◌, length, get_or, arith, ap, sym, refl, ◌∙◌, true≢false}
use Rattle.std.proofs.lemmas.Bool.{false≢true, or_left}
use Rattle.std.specs.Borrow.{Bor}
use Rattle.std.specs.List.{AllByRecursion}
use Rattle.std.specs.Option.{is_some}
use Rattle.std.specs.Set.{is_member}
use Rattle.std.specs.FinSet as set
use Rattle.cedar_ids.specs.UidOf.{same_uid}
use Rattle.cedar_ids.specs.laws.UidOfLaws.{same_uid_equiv}
use Rattle.cedar_ids.specs.declared.entity.EntityUID.{EntityUID}
use Rattle.cedar_uid_sets.specs.UidSets.{UidValues}

-- A set is empty if and only if its list has no first uid.
pub bare_so : (s : UidValues) (us left : List EntityUID) → ((q : EntityUID) → is_member same_uid us q ≡ set.contains s q)
    → (r : Option (Bor EntityUID)) → MatchOption r ((us ≡ []) × (left ≡ [])) (λ x. us ≡ x.now ∷ left)
    → (b : Bool) → is_some r ≡ not b → (b ≡ true) ↔ ((q : EntityUID) → set.contains s q ≡ false)
bare_so s us left m None h true e = (λ _ q. sym (m q) ∙ ap (λ l. is_member same_uid l q) h.0, λ _. refl)
bare_so s us left m None h false e = absurd (false≢true e)
bare_so s us left m (Some x) h true e = absurd (true≢false e)
bare_so s us left m (Some x) h false e = (
  λ t. absurd (false≢true t),
  λ none. absurd (true≢false (sym (or_left (same_uid x.now x.now) (is_member same_uid left x.now)
      (same_uid_equiv.refl x.now)) ∙ sym (ap (λ l. is_member same_uid l x.now) h) ∙ m x.now ∙ none x.now)),
)

-- A property of all elements is a property of the element at an index.
pub all_item : {X Y : Type 0} (f : X → Y) (P : Y → Type 0) (xs : List X) (k : ℕ) (d : X) → k < length xs
    → AllByRecursion P (map f xs) → P (f (get_or xs k d))
all_item f P [] k d h a = absurd (omega arith)
all_item f P (x ∷ xs) zero d h a = a.0
all_item f P (x ∷ xs) (suc k) d h a = all_item f P xs k d (omega arith) a.1
