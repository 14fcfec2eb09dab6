use Rattle.std.proofs.Common.{◌≡◌, ◌++◌, List, true}
use Rattle.std.specs.List.{flat_map, list_all}
use Rattle.std.specs.Fmt.{HasWritten, IsPlainFormatter}
use Rattle.cedar_policy.specs.Policies.{PolicyParts}
use Rattle.cedar_policy_set.specs.SetTexts.{is_known_policy, policy_line}
use Rattle.cedar_policy_set.proofs.text.write_policy_lines.Given as goal

abbrev pub invariant-loop-policy : goal.invariant-loop-policy
invariant-loop-policy g l = record {
  done : List PolicyParts;
  is_part : done ++ l.policy-iterator ≡ l.fn.policies;
  known : list_all is_known_policy l.fn.policies ≡ true → list_all is_known_policy l.policy-iterator ≡ true;
  written : list_all is_known_policy l.fn.policies ≡ true → IsPlainFormatter l.initial.f →
      HasWritten g.W.Write.write_str_gives l.initial.f (flat_map policy_line done) l.f;
}
