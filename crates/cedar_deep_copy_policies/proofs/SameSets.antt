-- Policy sets that `==` reports as equal are equal.
use Rattle.std.specs.Prelude.{◌≡◌, true}
use Rattle.std.specs.Cmp.{first_so, second_so}
use Rattle.std.specs.Cmp.Lexicographic.{pointwise, pointwise_decides}
use Rattle.cedar_body.specs.BodyEquality.{same_body}
use Rattle.cedar_body.specs.laws.BodyLaws.{same_body_decides}
use Rattle.cedar_policy.specs.PolicyEquality.{same_policy}
use Rattle.cedar_policy.specs.laws.PolicyLaws.{same_policy_decides}
use Rattle.cedar_policy_maps.specs.PolicySets.{SetParts}
use Rattle.cedar_policy_set.specs.SetEquality.{same_policy_set}

pub same_set_is : (a b : SetParts) → same_policy_set a b ≡ true → a ≡ b
same_set_is a b h =
    let both = pointwise same_body a.bodies b.bodies in
    let bodies : a.bodies ≡ b.bodies =
    (pointwise_decides same_body_decides a.bodies b.bodies).0
    (first_so both (pointwise same_policy a.policies b.policies) h) in
    let policies : a.policies ≡ b.policies =
    (pointwise_decides same_policy_decides a.policies b.policies).0
    (second_so both (pointwise same_policy a.policies b.policies) h) in
    λ i. record { bodies = bodies i; policies = policies i }
