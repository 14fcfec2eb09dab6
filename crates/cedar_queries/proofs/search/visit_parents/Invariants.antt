use Rattle.std.proofs.Common.{◌≡◌, ◌+◌, ◌&&◌, length, map}
use Rattle.std.specs.HashMap.{get, hash_map_len}
use Rattle.std.specs.Set.{is_member}
use Rattle.cedar_ids.specs.UidOf.{same_uid}
use Rattle.cedar_queries.specs.laws.Searches.{Visits, can_lead}
use Rattle.cedar_queries.proofs.search.visit_parents.Given as goal

abbrev pub invariant-loop-parent : goal.invariant-loop-parent
invariant-loop-parent g l = record {
  visits : Visits (λ a b. same_uid l.child a
      && (is_member same_uid (map (λ x. x.now) l.yielded) b && can_lead l.store.entities l.plain l.to b))
      (get same_uid l.initial.reached) (get same_uid l.reached) (is_member same_uid l.initial.next.items)
      (is_member same_uid l.next.items);
  count : hash_map_len l.reached + length l.initial.next.items ≡ hash_map_len l.initial.reached + length l.next.items;
}
