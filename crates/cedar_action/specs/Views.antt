-- Action constraints, and the remaining items of their iterators, as callers see them.
use Rattle.std.specs.Prelude.{List, [], ◌∷◌, map, reverse}
use Rattle.std.specs.Borrow.{Bor}
use Rattle.cedar_ids.specs.Uid.{UidParts}
use Rattle.cedar_ids.specs.UidOf.{uid_parts}
use Rattle.cedar_ids.specs.declared.entity.EntityUID.{EntityUID}
use Rattle.cedar_action.specs.Rules.{ActionRule, any_action, among, just, among_slot, just_slot}
use Rattle.cedar_action.specs.declared.action.ActionConstraint.{ActionConstraint}
use Rattle.cedar_action.specs.declared.action.ActionConstraint.TheVariants as actions
use Rattle.cedar_action.specs.declared.iters.EntityIterator.{EntityIterator}
use Rattle.cedar_action.specs.declared.iters.EntityIterator.TheVariants as iterators

-- The constraint without its locations.
abbrev pub rule_of : ActionConstraint → ActionRule
rule_of actions.Any = any_action
rule_of (actions.In us) = among (map (λ u. uid_parts u.value) us.items)
rule_of (actions.Eq u) = just (uid_parts u.value)
rule_of (actions.InSlot l) = among_slot
rule_of (actions.EqSlot l) = just_slot

-- The uids of a list, from the back.
abbrev pub from_the_back : List (Bor EntityUID) → List UidParts
from_the_back us = reverse (map (λ u. uid_parts u.now) us)

-- The remaining uids of an iterator, in order.
abbrev pub uids_left : EntityIterator → List UidParts
uids_left iterators.None = []
uids_left (iterators.One u) = uid_parts u.now ∷ []
uids_left (iterators.Bunch us) = from_the_back us.items
