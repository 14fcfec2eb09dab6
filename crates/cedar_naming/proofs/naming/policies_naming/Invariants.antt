use Rattle.std.proofs.Common.{◌≡◌, ◌++◌, map}
use Rattle.std.specs.List.{filter}
use Rattle.cedar_ids.specs.UidOf.{uid_parts}
use Rattle.cedar_naming.specs.Naming.{policy_names}
use Rattle.cedar_naming.proofs.naming.policies_naming.Given as goal

abbrev pub invariant-loop-policy : goal.invariant-loop-policy
invariant-loop-policy g l =
    map (λ p. p.now) l.naming.items ++ filter (policy_names (uid_parts l.uid)) l.policy-iterator
    ≡ filter (policy_names (uid_parts l.uid)) l.set.policies
