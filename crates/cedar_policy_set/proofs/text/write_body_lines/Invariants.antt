use Rattle.std.proofs.Common.{◌≡◌, ◌++◌, List, true}
use Rattle.std.specs.List.{flat_map, list_all}
use Rattle.std.specs.Fmt.{HasWritten, IsPlainFormatter}
use Rattle.cedar_body.specs.Bodies.{BodyParts}
use Rattle.cedar_policy_set.specs.SetTexts.{is_known_body, body_line}
use Rattle.cedar_policy_set.proofs.text.write_body_lines.Given as goal

abbrev pub invariant-loop-body : goal.invariant-loop-body
invariant-loop-body g l = record {
  done : List BodyParts;
  is_part : done ++ l.body-iterator ≡ l.fn.bodies;
  known : list_all is_known_body l.fn.bodies ≡ true → list_all is_known_body l.body-iterator ≡ true;
  written : list_all is_known_body l.fn.bodies ≡ true → IsPlainFormatter l.initial.f →
      HasWritten g.W.Write.write_str_gives l.initial.f (flat_map body_line done) l.f;
}
