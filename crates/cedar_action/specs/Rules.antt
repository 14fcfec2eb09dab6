-- Action constraints as callers see them. Locations are not part of them.
use Rattle.std.specs.Prelude.{List}
use Rattle.cedar_ids.specs.Uid.{UidParts}

-- The condition on an action. `any_action` allows every action. `among` is `in` a list of uids, and `just` is `==` a
-- uid. `among_slot` is `in ?action`, and `just_slot` is `== ?action`.
pub data ActionRule : Type 0 where
  any_action : ActionRule
  among : List UidParts → ActionRule
  just : UidParts → ActionRule
  among_slot : ActionRule
  just_slot : ActionRule
