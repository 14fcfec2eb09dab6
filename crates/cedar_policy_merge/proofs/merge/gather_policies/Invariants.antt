use Rattle.std.proofs.Common.{◌≡◌, ◌++◌, List}
use Rattle.indexmap.specs.IndexSet.{insert_all}
use Rattle.cedar_ids.specs.Texts.{same_text}
use Rattle.cedar_policy.specs.Policies.{PolicyParts}
use Rattle.cedar_policy_merge.specs.laws.GatherLaws.{Policies, Templates, conflicting_policies}
use Rattle.cedar_policy_merge.proofs.merge.gather_policies.Given as goal

abbrev pub invariant-loop-policy : goal.invariant-loop-policy
invariant-loop-policy g l = record {
  done : List PolicyParts;
  is_part : done ++ l.policy-iterator ≡ l.other.policies;
  ids : l.ids.keys ≡ insert_all same_text l.initial.ids.keys (conflicting_policies Policies l.here l.other done);
  templates : l.templates.items ≡ l.initial.templates.items ++ conflicting_policies Templates l.here l.other done;
}
