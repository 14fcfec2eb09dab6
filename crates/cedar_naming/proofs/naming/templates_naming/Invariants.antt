use Rattle.std.proofs.Common.{◌≡◌, ◌++◌, map}
use Rattle.std.specs.List.{filter}
use Rattle.cedar_ids.specs.UidOf.{uid_parts}
use Rattle.cedar_policy_maps.specs.Lists.{slotted_in}
use Rattle.cedar_naming.specs.Naming.{body_names}
use Rattle.cedar_naming.proofs.naming.templates_naming.Given as goal

abbrev pub invariant-loop-template : goal.invariant-loop-template
invariant-loop-template g l =
    map (λ t. t.now) l.naming.items ++ filter (body_names (uid_parts l.uid)) l.template-iterator
    ≡ filter (body_names (uid_parts l.uid)) (slotted_in l.set.bodies)
