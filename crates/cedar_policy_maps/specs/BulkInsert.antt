-- Conditions under which bodies and policies can be appended to a policy set.
use Rattle.std.specs.Prelude.{◌≡◌, List, [], ◌∷◌, ◌++◌, false}
use Rattle.std.specs.List.{list_any}
use Rattle.cedar_body.specs.Bodies.{BodyParts}
use Rattle.cedar_policy.specs.Policies.{PolicyParts}
use Rattle.cedar_policy_maps.specs.PolicySets.{SetParts, AreOnce, is_body_at, is_policy_at, IsPolicySet}
use Rattle.cedar_policy_maps.specs.Lists.{is_on}

-- The set with bodies and policies appended, each in order.
abbrev pub bulk_inserted : SetParts → List BodyParts → List PolicyParts → SetParts
bulk_inserted b ts ps = record { bodies = b.bodies ++ ts; policies = b.policies ++ ps }

-- Whether no policy of a list has the id of one of these bodies.
abbrev pub HaveIdsFreeOf : List BodyParts → List PolicyParts → Type 0
HaveIdsFreeOf [] ps = Unit {0}
HaveIdsFreeOf (t ∷ ts) ps = (list_any (is_policy_at t.id) ps ≡ false) × HaveIdsFreeOf ts ps

-- Whether the policies use none of these bodies, except bodies whose ids are among those of `stand`.
abbrev pub AreOnly : List BodyParts → List BodyParts → List PolicyParts → Type 0
AreOnly [] stand ps = Unit {0}
AreOnly (t ∷ ts) stand ps = (list_any (is_body_at t.id) stand ≡ false → list_any (is_on t.id) ps ≡ false)
    × AreOnly ts stand ps

-- Whether the policies use none of these bodies.
abbrev pub AreUnused : List BodyParts → List PolicyParts → Type 0
AreUnused [] ps = Unit {0}
AreUnused (t ∷ ts) ps = (list_any (is_on t.id) ps ≡ false) × AreUnused ts ps

-- Whether the bodies `ts` and the policies `ps` can be appended to a set, where `stand` lists the existing bodies that
-- get new links. The result is a policy set. No new policy has the id of an existing body, and no existing policy has
-- the id of a new body. The bodies in `stand` have different ids. New policies use only new bodies and bodies in
-- `stand`. No existing policy uses a new body.
pub record CanBulkInsert (b : SetParts) (stand ts : List BodyParts) (ps : List PolicyParts) : Type 0 where
  pub policy_set : IsPolicySet (bulk_inserted b ts ps)
  pub beside : HaveIdsFreeOf b.bodies ps
  pub behind : HaveIdsFreeOf ts b.policies
  pub once : AreOnce (λ (t : BodyParts). t.id) stand
  pub only : AreOnly b.bodies stand ps
  pub bare : AreUnused ts b.policies
