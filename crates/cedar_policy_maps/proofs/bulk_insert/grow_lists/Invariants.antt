use Rattle.std.proofs.Common.{◌≡◌, ◌≤◌}
use Rattle.indexmap.specs.IndexMap.{spare}
use Rattle.cedar_policy_maps.specs.Maps.{lists_of}
use Rattle.cedar_policy_maps.specs.laws.BulkInsertSteps.{HaveRoom, HaveOwnKeys, grown_by}
use Rattle.cedar_policy_maps.proofs.bulk_insert.grow_lists.Given as goal

abbrev pub invariant-loop-body : goal.invariant-loop-body
invariant-loop-body g l = record {
  lists : grown_by (lists_of l.map.entries) (lists_of l.body-iterator)
      ≡ grown_by (lists_of l.initial.map.entries) (lists_of l.fn.grown.entries);
  room : HaveRoom l.map.entries (lists_of l.body-iterator);
  once : HaveOwnKeys l.body-iterator;
  spared : spare l.initial.map ≤ spare l.map;
}
