use Rattle.std.proofs.Common.{◌≡◌, ◌++◌, All, List}
use Rattle.cedar_body.specs.Bodies.{BodyParts}
use Rattle.cedar_policy_set.specs.Validity.{IsValidBody}
use Rattle.cedar_policy_set.proofs.validate.validate_bodies.Given as goal

abbrev pub invariant-loop-template : goal.invariant-loop-template
invariant-loop-template l = record {
  done : List BodyParts;
  is_part : done ++ l.template-iterator ≡ l.fn.bodies;
  valid : All IsValidBody done;
}
