-- Bindings of slots, and when they fit some slots.
use Rattle.std.specs.Prelude.{◌≡◌, List, Bool, not, ◌&&◌, Option, Some, None, is_some, option_and_then, if◌then◌else◌}
use Rattle.std.specs.List.{filter, list_any}
use Rattle.cedar_ids.specs.Uid.{UidParts, is_action_uid}
use Rattle.cedar_terms.specs.SlotTree.{all_slots, same_slot}
use Rattle.cedar_terms.specs.declared.slot.SlotId.{SlotId}
use Rattle.cedar_terms.specs.declared.slot.SlotId.TheVariants.{Action}

-- Bindings: the uid of each slot, if it is bound.
abbrev pub EnvParts : Type 0
EnvParts = SlotId → Option UidParts

-- Empty bindings.
abbrev pub no_env : EnvParts
no_env s = None

-- The uid bound to a slot, if it is bound.
abbrev pub bound_to : EnvParts → SlotId → Option UidParts
bound_to e s = e s

-- Whether a slot is bound.
abbrev pub binds : EnvParts → SlotId → Bool
binds e s = is_some (bound_to e s)

-- Whether an id is among some slots.
abbrev pub is_listed_id : List SlotId → SlotId → Bool
is_listed_id slots s = list_any (same_slot s) slots

-- Whether the bound ids are exactly the ids of the slots.
abbrev pub BindsExactly : List SlotId → EnvParts → Type 0
BindsExactly slots e = (s : SlotId) → binds e s ≡ is_listed_id slots s

-- The uid, if it is not an action.
abbrev pub unless_action : UidParts → Option UidParts
unless_action u = if is_action_uid u then None else Some u

-- The uid bound to the action's slot, if it is not an action.
abbrev pub wrong_action : EnvParts → Option UidParts
wrong_action e = option_and_then unless_action (bound_to e Action)

-- Whether bindings fit the slots: the bound ids are exactly the slots, and the uid bound to the action's slot, if any,
-- is an action.
pub record FitsSlots (slots : List SlotId) (e : EnvParts) : Type 0 where
  pub exactly : BindsExactly slots e
  pub action : wrong_action e ≡ None

-- The slots that are not bound, in their order and with repetitions.
abbrev pub unbound : List SlotId → EnvParts → List SlotId
unbound slots e = filter (λ s. not (binds e s)) slots

-- The bound ids that are not slots, in the order of ids.
abbrev pub extra : List SlotId → EnvParts → List SlotId
extra slots e = filter (λ s. binds e s && not (is_listed_id slots s)) all_slots
