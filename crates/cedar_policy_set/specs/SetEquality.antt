-- Equality of policy sets.
use Rattle.std.specs.Prelude.{Bool, ◌&&◌}
use Rattle.std.specs.Cmp.Lexicographic.{pointwise}
use Rattle.cedar_body.specs.BodyEquality.{same_body}
use Rattle.cedar_policy.specs.PolicyEquality.{same_policy}
use Rattle.cedar_policy_maps.specs.PolicySets.{SetParts}

-- Whether two sets have equal bodies and equal policies, in the same orders.
abbrev pub same_policy_set : SetParts → SetParts → Bool
same_policy_set x y = pointwise same_body x.bodies y.bodies && pointwise same_policy x.policies y.policies
