use Rattle.std.proofs.Common.{sym, subst}
use Rattle.cedar_policy.specs.Policies.{policy_id}
use Rattle.cedar_policy_maps.specs.PolicySets.{AreOnce}
use Rattle.cedar_policy_maps.proofs.bulk_insert.new_entries.Goals as goal

pub ids_by_template-requires-clause-policies : goal.ids_by_template-requires-clause-policies
ids_by_template-requires-clause-policies g c =
    subst (AreOnce policy_id) (sym c.in_ok-links.ensures.values) c.requires.policies
