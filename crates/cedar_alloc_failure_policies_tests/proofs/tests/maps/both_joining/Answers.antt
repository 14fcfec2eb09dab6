use Rattle.cedar_alloc_failure_policies_tests.proofs.Joining.{both_taken}
use Rattle.cedar_alloc_failure_policies_tests.proofs.tests.maps.both_joining.Goals as goal

pub returns : goal.returns
returns c =
    both_taken c.in_ok-bodies.bodies.stand.items c.in_ok-bodies.bodies.join.items c.in_ok-policies.policies.join.items
    c.in_ok-template.template c.args.policy c.requires c.in_ok-bodies.ensures.stand c.in_ok-bodies.ensures.join
    c.in_ok-template.ensures c.in_ok-policies.ensures.join
