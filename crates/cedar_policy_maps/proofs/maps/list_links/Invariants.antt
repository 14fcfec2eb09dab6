use Rattle.std.proofs.Common.{◌≡◌, take}
use Rattle.std.specs.Map.{keys_of}
use Rattle.cedar_policy_maps.specs.Maps.{lists_of}
use Rattle.cedar_policy_maps.specs.laws.GatherLaws.{gathered, links_in, elsewhere_in}
use Rattle.cedar_policy_maps.specs.laws.MapLaws.{all_listed}
use Rattle.cedar_policy_maps.proofs.maps.list_links.Given as goal

abbrev pub invariant-loop-policy : goal.invariant-loop-policy
invariant-loop-policy g l = record {
  listed : lists_of l.listed.entries
      ≡ all_listed (lists_of l.initial.listed.entries) (links_in (take l.policy-index l.policies));
  grown : lists_of l.grown.entries
      ≡ gathered (lists_of l.initial.grown.entries)
      (elsewhere_in (keys_of l.initial.listed.entries) (take l.policy-index l.policies));
}
