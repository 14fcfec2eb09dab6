-- Bindings as callers see them, without the order of a map and without locations.
use Rattle.std.specs.Option.{option_map}
use Rattle.std.specs.HashMap.{HashMap, get}
use Rattle.cedar_ids.specs.UidOf.{uid_parts}
use Rattle.cedar_ids.specs.declared.entity.EntityUID.{EntityUID}
use Rattle.cedar_terms.specs.SlotTree.{same_slot}
use Rattle.cedar_terms.specs.declared.slot.SlotId.{SlotId}
use Rattle.cedar_binding.specs.Bindings.{EnvParts}

-- The bindings in a map.
abbrev pub env_of : {S : Type 0} → HashMap SlotId EntityUID S → EnvParts
env_of m s = option_map uid_parts (get same_slot m s)
