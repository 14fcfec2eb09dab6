-- The lists of unbound and extra ids are empty if the bound ids are exactly the ids of the slots, and only then.
use Rattle.std.specs.Prelude.{◌≡◌, List, [], ◌∷◌, Bool, true, false, not, ◌&&◌, ◌||◌, refl}
use Rattle.std.proofs.Common.{cond, sym, ap, ◌∙◌, ◌⊎◌, inl, inr}
use Rattle.std.proofs.lemmas.Bool.{false≢true}
use Rattle.cedar_terms.specs.SlotTree.{same_slot}
use Rattle.cedar_terms.specs.laws.SlotIdLaws.{none_passes, passes_none, same_slot_decides}
use Rattle.cedar_terms.specs.declared.slot.SlotId.{SlotId}
use Rattle.cedar_binding.specs.Bindings.{EnvParts, binds, is_listed_id, unbound, extra, BindsExactly}

-- Two Booleans are equal if each implies the other.
pub same_answer : (a b : Bool) → (a ≡ true → b ≡ true) → (b ≡ true → a ≡ true) → a ≡ b
same_answer true b f g = sym (f refl)
same_answer false true f g = absurd (false≢true (g refl))
same_answer false false f g = refl

-- If no slot is unbound, the first slot is bound.
first_bound : (v : Bool) (s : SlotId) (us : List SlotId) → cond (not v) (s ∷ us) us ≡ [] → (v ≡ true) × (us ≡ [])
first_bound true s us h = (refl, h)
first_bound false s us h = absurd (cc)

either : (a b : Bool) → (a || b) ≡ true → (a ≡ true) ⊎ (b ≡ true)
either true b h = inl refl
either false b h = inr h

bound_among : (x : SlotId) (xs : List SlotId) (e : EnvParts) (s : SlotId) → binds e x ≡ true
    → (is_listed_id xs s ≡ true → binds e s ≡ true) →
    (same_slot s x ≡ true) ⊎ (is_listed_id xs s ≡ true) → binds e s ≡ true
bound_among x xs e s h f (inl p) = ap (binds e) ((same_slot_decides s x).0 p) ∙ h
bound_among x xs e s h f (inr p) = f p

-- If no slot is unbound, each slot is bound.
slots_are_bound : (slots : List SlotId) (e : EnvParts) → unbound slots e ≡ [] → (s : SlotId) → is_listed_id slots s ≡ true
    → binds e s ≡ true
slots_are_bound [] e h s p = absurd (false≢true p)
slots_are_bound (x ∷ xs) e h s p =
    let b = first_bound (binds e x) x (unbound xs e) h in
    bound_among x xs e s b.0 (slots_are_bound xs e b.1 s) (either (same_slot s x) (is_listed_id xs s) p)

then_listed : (a b : Bool) → (a && not b) ≡ false → a ≡ true → b ≡ true
then_listed true true h p = refl
then_listed true false h p = absurd (cc)
then_listed false b h p = absurd (cc)

-- If no id is extra, each bound id is a slot.
bound_are_slots : (slots : List SlotId) (e : EnvParts) → extra slots e ≡ [] → (s : SlotId) → binds e s ≡ true
    → is_listed_id slots s ≡ true
bound_are_slots slots e h s p = then_listed _ _ (none_passes (λ t. binds e t && not (is_listed_id slots t)) h s) p

-- If both lists are empty, the bound ids are exactly the slots.
pub fits : (slots : List SlotId) (e : EnvParts) → unbound slots e ≡ [] → extra slots e ≡ [] → BindsExactly slots e
fits slots e u x s = same_answer (binds e s) (is_listed_id slots s) (bound_are_slots slots e x s)
    (slots_are_bound slots e u s)

on_the_left : (a b : Bool) → a ≡ true → (a || b) ≡ true
on_the_left a b h = cc

on_the_right : (a b : Bool) → b ≡ true → (a || b) ≡ true
on_the_right true b h = refl
on_the_right false b h = h

none_unbound : (slots : List SlotId) (e : EnvParts) → ((s : SlotId) → is_listed_id slots s ≡ true → binds e s ≡ true)
    → unbound slots e ≡ []
none_unbound [] e f = refl
none_unbound (x ∷ xs) e f =
    rw (f x (on_the_left _ _ ((same_slot_decides x x).1 refl)))
    (none_unbound xs e (λ s p. f s (on_the_right (same_slot s x) _ p)))

not_listed : (a b : Bool) → a ≡ b → (a && not b) ≡ false
not_listed true true h = refl
not_listed true false h = absurd (cc)
not_listed false b h = refl

-- If the bound ids are exactly the slots, both lists are empty.
pub nothing_left_over : (slots : List SlotId) (e : EnvParts) → BindsExactly slots e → (unbound slots e ≡ [])
    × (extra slots e ≡ [])
nothing_left_over slots e f = (
  none_unbound slots e (λ s p. f s ∙ p),
  passes_none (λ t. binds e t && not (is_listed_id slots t)) (λ t. not_listed (binds e t) (is_listed_id slots t) (f t)),
)
