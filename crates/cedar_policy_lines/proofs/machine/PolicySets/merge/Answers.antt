use Rattle.std.proofs.Common.{OnOk, subst}
use Rattle.std.proofs.lemmas.Result.{on_ok_weaker}
use Rattle.cedar_policy_lines.specs.TwoSets.{TwoSets, with_current}
use Rattle.cedar_policy_lines.specs.PolicyCommand.{Merge as merge_command}
use Rattle.cedar_policy_lines.specs.PolicyOutput.{PolicyWrites}
use Rattle.cedar_policy_lines.proofs.Merging.{merge_writes}
use Rattle.cedar_policy_lines.proofs.machine.PolicySets.merge.Goals as goal

pub returns : goal.returns
returns g c =
    let old : TwoSets = record { current = c.self.inside.current; aside = c.self.inside.aside } in
    let now = c.merge_policyset-answer.new.self in
    let before = c.args.out.now.items in
    let after = c.push_by_merging.new.out.items in
    subst (λ (b : TwoSets). OnOk c.push_by_merging.result
    (PolicyWrites (merge_command c.args.rename) b (with_current old now) before after)) c.self.view_is
    (on_ok_weaker c.push_by_merging.result
    (merge_writes (λ r. r.entries) c.merge_policyset-answer.result c.args.rename old now before after
    c.merge_policyset-answer.ensures.merges)
    c.push_by_merging.ensures)
