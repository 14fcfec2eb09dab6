use Rattle.cedar_body.specs.Bodies.{BodyParts}
use Rattle.cedar_policy.specs.Policies.{policy_id}
use Rattle.cedar_policy_maps.specs.Views.{bodies_of}
use Rattle.cedar_policy_maps.proofs.Entered.{once_after}
use Rattle.cedar_policy_maps.proofs.policy_maps.PolicyMaps.insert_bulk.Goals as goal

pub new_entries-requires-clause-bodies : goal.new_entries-requires-clause-bodies
new_entries-requires-clause-bodies g c =
    once_after (λ (t : BodyParts). t.id) c.args.self.now.bodies
    (bodies_of c.args.bodies.join.items) c.requires.policy_set.bodies_once

pub new_entries-requires-clause-policies : goal.new_entries-requires-clause-policies
new_entries-requires-clause-policies g c =
    once_after policy_id c.args.self.now.policies c.args.policies.join.items c.requires.policy_set.policies_once
