-- The equality, order, hash and texts of slot ids.
use Rattle.std.specs.Prelude.{ℕ, List, [], ◌∷◌, Bool, nat_eq, codes}
use Rattle.std.specs.declared.cmp.Ordering.{Ordering}
use Rattle.std.specs.Ordering.{on, nat_cmp}
use Rattle.std.specs.Hash as fed
use Rattle.cedar_terms.specs.declared.slot.SlotId.{SlotId}
use Rattle.cedar_terms.specs.declared.slot.SlotId.TheVariants.{Principal, Action, Resource}

-- All slot ids, in ascending order.
abbrev pub all_slots : List SlotId
all_slots = Principal ∷ Action ∷ Resource ∷ []

-- The index of a slot id in `all_slots`.
abbrev pub slot_index : SlotId → ℕ
slot_index Principal = 0
slot_index Action = 1
slot_index Resource = 2

-- The result of `==` on two slot ids.
abbrev pub same_slot : SlotId → SlotId → Bool
same_slot = on slot_index nat_eq

-- The result of `cmp` on two slot ids.
abbrev pub slot_cmp : SlotId → SlotId → Ordering
slot_cmp = on slot_index nat_cmp

-- The input that a slot id feeds to a hasher.
abbrev pub slot_hash : SlotId → List (List ℕ)
slot_hash s = fed.u8 (slot_index s)

-- The printed text of a slot id.
abbrev pub slot_text : SlotId → List ℕ
slot_text Principal = codes "?principal"
slot_text Action = codes "?action"
slot_text Resource = codes "?resource"
