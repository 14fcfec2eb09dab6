-- The results of accessors of policies and templates, as Booleans.
use Rattle.std.specs.Prelude.{◌≡◌, ◌↔◌, ℕ, List, [], ◌∷◌, Bool, true, false, not, Option, Some, None, IsTrue, is_some}
use Rattle.std.specs.Prelude.{refl}
use Rattle.cedar_policy_maps.specs.Lists.{is_slotless}
use Rattle.cedar_terms.specs.declared.slot.SlotId.{SlotId}

pub link_told : (o : Option (List ℕ)) (v : Bool) → (IsTrue v ↔ (o ≡ None)) → not v ≡ is_some o
link_told None true h = refl
link_told None false h = absurd (cc (h.1 refl))
link_told (Some l) true h = absurd (cc (h.0 refl))
link_told (Some l) false h = refl

pub slots_told : (ss : List SlotId) (v : Bool) → (IsTrue v ↔ (ss ≡ [])) → v ≡ is_slotless ss
slots_told [] true h = refl
slots_told [] false h = absurd (cc (h.1 refl))
slots_told (s ∷ ss) true h = absurd (cc (h.0 refl))
slots_told (s ∷ ss) false h = refl
