use Rattle.std.proofs.Common.{◌≡◌, ◌≤◌, ◌++◌, length}
use Rattle.std.specs.List.{IsDistinct}
use Rattle.std.specs.Map.{keys_of}
use Rattle.indexmap.specs.IndexMap.{spare}
use Rattle.cedar_ids.specs.Texts.{same_text}
use Rattle.cedar_policy_maps.specs.Maps.{lists_of}
use Rattle.cedar_policy_maps.proofs.maps.link_lists.Given as goal

abbrev pub invariant-loop-body : goal.invariant-loop-body
invariant-loop-body g l = record {
  lists : lists_of l.lists.entries ++ lists_of l.body-iterator ≡ lists_of l.fn.map.entries;
  room : length l.body-iterator ≤ spare l.lists;
  once : IsDistinct same_text (keys_of l.fn.map.entries);
}
