use Rattle.std.specs.Prelude.{◌≡◌, Some}
use Rattle.std.proofs.Common.{subst}
use Rattle.cedar_policy_maps.specs.PolicySets.{bound_at}
use Rattle.cedar_policy_maps.specs.laws.SetLaws.{bound_policy_unlinked}
use Rattle.cedar_policy_maps.specs.Founds.{found_binding}
use Rattle.cedar_policy_set.proofs.policy_set.PolicySet.unlink.Goals as goal

pub take_near-body-requires : goal.take_near-body-requires
take_near-body-requires g c =
    bound_policy_unlinked c.self.inside.maps c.args.id.now c.in-Some-Policy.policy.now
    c.is_empty-policy_set.ensures.policy_set
    (subst (λ x. Some (found_binding x) ≡ bound_at c.self.inside.maps c.args.id.now) c.in-Some-Policy.field-0-is
    c.in-Some-Policy.ensures)
