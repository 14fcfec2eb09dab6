-- The results of creating a static policy.
use Rattle.std.specs.Prelude.{◌≡◌, List, [], ◌∷◌, Result, Ok, Err}
use Rattle.cedar_terms.specs.declared.slot.SlotId.{SlotId}
use Rattle.cedar_body.specs.Bodies.{BodyParts, body_slots}
use Rattle.cedar_policy.specs.declared.err.UnexpectedSlotError.{UnexpectedSlotError}
use Rattle.cedar_policy.specs.declared.err.UnexpectedSlotError.TheVariants.{FoundSlot, Memory}

-- Whether a slot is the first of some slots.
abbrev pub IsFirst : SlotId → List SlotId → Type 0
IsFirst s slots = (rest : List SlotId) × (slots ≡ s ∷ rest)

-- Whether a result is right for a body. `Ok` requires a body without slots, and contains its static policy. `FoundSlot`
-- contains the first slot. `Memory` requires the condition `M`.
abbrev pub StaticUnless : Type 0 → Result BodyParts UnexpectedSlotError → BodyParts → Type 0
StaticUnless M (Ok s) b = (body_slots b ≡ []) × (s ≡ b)
StaticUnless M (Err (FoundSlot s)) b = IsFirst s (body_slots b)
StaticUnless M (Err Memory) b = M

-- Whether a result is right, and not `Memory`.
abbrev pub IsStaticOf : Result BodyParts UnexpectedSlotError → BodyParts → Type 0
IsStaticOf = StaticUnless ⊥

-- Whether a result is right, where `Memory` is always possible.
abbrev pub CreatesStaticBody : Result BodyParts UnexpectedSlotError → BodyParts → Type 0
CreatesStaticBody = StaticUnless (Unit {0})
