-- Laws of the equality, order and hash of slot ids.
use Rattle.std.specs.Prelude.{◌≡◌, ℕ, zero, suc, List, [], ◌∷◌, Bool, true, false, refl, nat_eq}
use Rattle.std.proofs.Common.{ap, ◌∙◌, sym, cond, inl, inr}
use Rattle.std.proofs.lemmas.Bool.{eqb-true, false≢true, or_cases, and_parts, and_from}
use Rattle.std.specs.Bool.{Decides}
use Rattle.std.specs.List.{filter, list_all, list_any}
use Rattle.std.specs.Ordering.{as_partial_cmp, eq_by_cmp}
use Rattle.std.specs.Cmp.{IsEquivalence, IsTotalOrder, IsPartialOrder, on_equiv, on_total, nat_eq_equiv, nat_cmp_total}
use Rattle.std.specs.Cmp.{unsigned_ties, po}
use Rattle.cedar_terms.specs.declared.slot.SlotId.{SlotId}
use Rattle.cedar_terms.specs.declared.slot.SlotId.TheVariants.{Principal, Action, Resource}
use Rattle.cedar_terms.specs.SlotTree.{all_slots, same_slot, slot_cmp, slot_hash, slot_index}

-- The slot id with this index.
abbrev pub slot_at : ℕ → SlotId
slot_at zero = Principal
slot_at (suc zero) = Action
slot_at (suc (suc n)) = Resource

-- The slot id with the index of `s` is `s`.
pub slot_at-slot_index : (s : SlotId) → slot_at (slot_index s) ≡ s
slot_at-slot_index Principal = refl
slot_at-slot_index Action = refl
slot_at-slot_index Resource = refl

-- Every slot id is in `all_slots`.
pub is_among_all : (s : SlotId) → list_any (same_slot s) all_slots ≡ true
is_among_all Principal = refl
is_among_all Action = refl
is_among_all Resource = refl

-- Slot ids with equal indices are equal.
pub slot_index-inj : (x y : SlotId) → slot_index x ≡ slot_index y → x ≡ y
slot_index-inj x y e = sym (slot_at-slot_index x) ∙ ap slot_at e ∙ slot_at-slot_index y

-- `==` is an equivalence.
pub same_slot_equiv : IsEquivalence same_slot
same_slot_equiv = on_equiv slot_index nat_eq_equiv

-- The order is total.
pub slot_cmp_total : IsTotalOrder slot_cmp
slot_cmp_total = on_total slot_index nat_cmp_total

-- Two slot ids are equal if the order reports `Equal`, and only then.
pub slot_ties : (x y : SlotId) → same_slot x y ≡ eq_by_cmp slot_cmp x y
slot_ties x y = unsigned_ties (slot_index x) (slot_index y)

-- The order is a partial order.
pub slot_po : IsPartialOrder same_slot (as_partial_cmp slot_cmp)
slot_po = po slot_cmp_total slot_ties

-- `==` decides whether two slot ids are identical.
pub same_slot_decides : (x y : SlotId) → Decides (same_slot x y) (x ≡ y)
same_slot_decides x y = (
  λ e. slot_index-inj x y (eqb-true (slot_index x) (slot_index y) e),
  λ e. ap (λ z. nat_eq (slot_index x) (slot_index z)) (sym e) ∙ same_slot_equiv.refl x,
)

module _ (p : SlotId → Bool) where
  each_of : (slots : List SlotId) → list_all p slots ≡ true → (s : SlotId) → list_any (same_slot s) slots ≡ true
      → p s ≡ true
  each_of [] h s m = absurd (false≢true m)
  each_of (x ∷ xs) h s m = let both = and_parts (p x) (list_all p xs) h in
      elim (or_cases (same_slot s x) (list_any (same_slot s) xs) m) [
        | inl e ↦ ap p ((same_slot_decides s x).0 e) ∙ both.0
        | inr r ↦ each_of xs both.1 s r
      ]

  -- A test that is true of all elements of `all_slots` is true of every slot id.
  pub at_each : list_all p all_slots ≡ true → (s : SlotId) → p s ≡ true
  at_each h s = each_of all_slots h s (is_among_all s)

  all_of : (slots : List SlotId) → ((s : SlotId) → p s ≡ true) → list_all p slots ≡ true
  all_of [] h = refl
  all_of (x ∷ xs) h = and_from (p x) (list_all p xs) (h x) (all_of xs h)

  -- A test that is true of every slot id is true of all elements of `all_slots`.
  pub of_each : ((s : SlotId) → p s ≡ true) → list_all p all_slots ≡ true
  of_each h = all_of all_slots h

  first_left_out : (b : Bool) (x : SlotId) (xs : List SlotId) → cond b (x ∷ xs) xs ≡ [] → (b ≡ false) × (xs ≡ [])
  first_left_out true x xs h = absurd (cc)
  first_left_out false x xs h = (refl, h)

  left_out : (slots : List SlotId) → filter p slots ≡ [] → (s : SlotId) → list_any (same_slot s) slots ≡ true
      → p s ≡ false
  left_out [] h s m = absurd (false≢true m)
  left_out (x ∷ xs) h s m = let none = first_left_out (p x) x (filter p xs) h in
      elim (or_cases (same_slot s x) (list_any (same_slot s) xs) m) [
        | inl e ↦ ap p ((same_slot_decides s x).0 e) ∙ none.0
        | inr r ↦ left_out xs none.1 s r
      ]

  -- If no element of `all_slots` passes a test, the test is false of every slot id.
  pub none_passes : filter p all_slots ≡ [] → (s : SlotId) → p s ≡ false
  none_passes h s = left_out all_slots h s (is_among_all s)

  all_left_out : (slots : List SlotId) → ((s : SlotId) → p s ≡ false) → filter p slots ≡ []
  all_left_out [] h = refl
  all_left_out (x ∷ xs) h = ap (λ b. cond b (x ∷ filter p xs) (filter p xs)) (h x) ∙ all_left_out xs h

  -- If a test is false of every slot id, no element of `all_slots` passes it.
  pub passes_none : ((s : SlotId) → p s ≡ false) → filter p all_slots ≡ []
  passes_none h = all_left_out all_slots h

-- Equal slot ids have equal hashes.
pub slot_hash_respects : (x y : SlotId) → same_slot x y ≡ true → slot_hash x ≡ slot_hash y
slot_hash_respects x y e = ap slot_hash ((same_slot_decides x y).0 e)
