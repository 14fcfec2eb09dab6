use Rattle.std.proofs.Common.{◌+◌, ◌≤◌, length}
use Rattle.std.specs.HashMap.{get, hash_map_len}
use Rattle.std.specs.Set.{is_member}
use Rattle.cedar_ids.specs.UidOf.{same_uid}
use Rattle.cedar_queries.specs.laws.Searches.{search_graph}
use Rattle.cedar_queries.proofs.Layers.{Layered, Within}
use Rattle.cedar_queries.proofs.search.search.Given as goal

abbrev pub invariant-loop-between : goal.invariant-loop-between
invariant-loop-between g l = record {
  layered : Layered (search_graph l.store.entities l.plain l.to) l.fn.from (get same_uid l.reached)
      (is_member same_uid l.layer.items) l.between;
  early : Within (search_graph l.store.entities l.plain l.to) l.fn.from l.between l.to → ⊥;
  count : l.between + length l.layer.items ≤ hash_map_len l.reached;
}
