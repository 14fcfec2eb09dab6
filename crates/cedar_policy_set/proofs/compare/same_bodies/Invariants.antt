use Rattle.std.proofs.Common.{◌≡◌}
use Rattle.std.specs.Cmp.Lexicographic.{pointwise}
use Rattle.cedar_body.specs.BodyEquality.{same_body}
use Rattle.cedar_policy_set.proofs.compare.same_bodies.Given as goal

abbrev pub invariant-loop-body : goal.invariant-loop-body
invariant-loop-body l = pointwise same_body l.body-iterator l.others ≡ pointwise same_body l.fn.bodies l.initial.others
