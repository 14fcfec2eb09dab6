use Rattle.std.specs.Prelude.{◌≡◌, [], ◌∷◌}
use Rattle.std.proofs.Common.{sym, subst}
use Rattle.cedar_policy.specs.Policies.{policy_id}
use Rattle.cedar_policy_maps.specs.Maps.{Maps, CanMakeSet, maps_of}
use Rattle.cedar_alloc_failure_policies_tests.proofs.Single.{one_makes}
use Rattle.cedar_alloc_failure_policies_tests.proofs.tests.raw.raw_maps_one.Goals as goal

pub from_raw_components-requires : goal.from_raw_components-requires
from_raw_components-requires c =
    let p = c.args.policy in
    let now : Maps =
    maps_of c.in_ok-templates.templates.entries c.in_ok-links.links.entries c.in_ok-lists.lists.entries in
    let want : Maps = record {
      bodies = (p.template.id, p.template) ∷ [];
      policies = (policy_id p, p) ∷ [];
      listed = (p.template.id, policy_id p ∷ []) ∷ [];
    } in
    let same : now ≡ want = λ j. record {
      bodies = c.in_ok-templates.ensures j;
      policies = c.in_ok-links.ensures j;
      listed = c.in_ok-lists.ensures j;
    } in
    subst CanMakeSet (sym same) (one_makes p c.requires)
