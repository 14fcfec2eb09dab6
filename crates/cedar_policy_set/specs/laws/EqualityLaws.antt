-- The equality of policy sets is an equivalence. Two lists are compared element by element.
use Rattle.std.specs.Prelude.{Bool, false, Option, Some, None}
use Rattle.std.specs.Cmp.{IsEquivalence, and_equiv, on_equiv}
use Rattle.std.proofs.lemmas.Cmp.{lists_equiv}
use Rattle.cedar_body.specs.laws.BodyLaws.{same_body_equiv}
use Rattle.cedar_policy.specs.laws.PolicyLaws.{same_policy_equiv}
use Rattle.cedar_policy_maps.specs.PolicySets.{SetParts}
use Rattle.cedar_policy_set.specs.SetEquality.{same_policy_set}

pub same_policy_set_equiv : IsEquivalence same_policy_set
same_policy_set_equiv = and_equiv (on_equiv (λ (b : SetParts). b.bodies) (lists_equiv same_body_equiv))
    (on_equiv (λ (b : SetParts). b.policies) (lists_equiv same_policy_equiv))

-- Whether there is an element, and it is equal to the first one.
abbrev pub is_given : {X : Type 0} → (X → X → Bool) → X → Option X → Bool
is_given eq x None = false
is_given eq x (Some y) = eq x y
