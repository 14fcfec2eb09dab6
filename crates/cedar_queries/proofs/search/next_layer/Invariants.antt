use Rattle.std.proofs.Common.{◌≡◌, ◌+◌, ◌&&◌, length, take, false}
use Rattle.std.specs.HashMap.{get, hash_map_len}
use Rattle.std.specs.Set.{is_member}
use Rattle.cedar_ids.specs.UidOf.{same_uid}
use Rattle.cedar_queries.specs.laws.Searches.{Visits, search_graph}
use Rattle.cedar_queries.proofs.search.next_layer.Given as goal

abbrev pub invariant-loop-child : goal.invariant-loop-child
invariant-loop-child g l = record {
  visits : Visits (λ a b. is_member same_uid (take l.child-index l.layer) a
      && search_graph l.store.entities l.plain l.to a b) (get same_uid l.initial.reached) (get same_uid l.reached)
      (λ q. false) (is_member same_uid l.next.items);
  count : hash_map_len l.reached ≡ hash_map_len l.initial.reached + length l.next.items;
}
