use Rattle.cedar_terms.specs.Walk.{unknowns_of}
use Rattle.cedar_body.specs.Bodies.{condition}
use Rattle.cedar_c_sets.proofs.Unknown.{named_by}
use Rattle.cedar_c_sets.proofs.unknowns.unknowns_of.Goals as goal

pub returns : goal.returns
returns g c = (
  c.iter.result,
  c.iter.ensures.ascending,
  named_by c.in_ok-found.found (unknowns_of (condition c.args.policy.now.template)) c.in_ok-uids.uids c.iter.result
      c.in_ok-found.ensures c.in_ok-uids.ensures c.iter.ensures.members,
  c.in_ok-answer.ensures,
)
