use Rattle.std.proofs.Common.{◌∙◌, sym, ap, arith}
use Rattle.std.specs.Map.{keys_of}
use Rattle.cedar_policy_maps.specs.Maps.{lists_of}
use Rattle.cedar_policy_maps.specs.laws.GatherLaws.{links_in, all_listed_keys}
use Rattle.cedar_policy_maps.specs.laws.BulkInsertSteps.{listed_keys}
use Rattle.cedar_policy_maps.proofs.Entries.{links_more, gathered_more}
use Rattle.std.proofs.Common.{take}
use Rattle.cedar_policy_maps.proofs.maps.list_links.Goals as goal

pub loop-policy-preserved : goal.loop-policy-preserved
loop-policy-preserved g c =
    let ps = c.args.policies.now in
    let before = c.loop-policy.invariant in
    let ls = lists_of c.args.listed.now.entries in
    record {
      listed = links_more ps c.loop-policy.policy-index c.policy-item.result ls
          (lists_of c.loop-policy.listed.entries) (lists_of c.list_if_link.new.listed.entries) (omega arith)
          c.policy-item.is before.listed c.in_ok-list_if_link.ensures.listed;
      grown = gathered_more ps c.loop-policy.policy-index c.policy-item.result (keys_of c.args.listed.now.entries)
          (keys_of c.loop-policy.listed.entries) (lists_of c.args.grown.now.entries)
          (lists_of c.loop-policy.grown.entries) (lists_of c.list_if_link.new.grown.entries) (omega arith)
          c.policy-item.is
          (sym (listed_keys c.loop-policy.listed.entries) ∙ ap keys_of before.listed
          ∙ all_listed_keys ls (links_in (take c.loop-policy.policy-index ps)) ∙ listed_keys c.args.listed.now.entries)
          before.grown c.in_ok-list_if_link.ensures.grown;
    }
