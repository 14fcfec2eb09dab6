use Rattle.std.proofs.Common.{◌≡◌, ◌∙◌, ◌+◌, ◌<◌, ◌&&◌, ◌||◌, ap, arith, false, length, sym, take}
use Rattle.std.proofs.lemmas.List.{take_all}
use Rattle.std.specs.HashMap.{get, hash_map_len}
use Rattle.std.specs.Set.{is_member}
use Rattle.cedar_ids.specs.UidOf.{same_uid}
use Rattle.cedar_ids.specs.declared.entity.EntityUID.{EntityUID}
use Rattle.cedar_queries.specs.laws.Searches.{search_graph}
use Rattle.cedar_queries.proofs.UidLists.{member_more}
use Rattle.cedar_queries.proofs.UidVisits.{edges_from}
use Rattle.cedar_queries.proofs.Visiting.{visits_more, visits_same}
use Rattle.cedar_queries.proofs.search.next_layer.Goals as goal

pub loop-child-preserved : goal.loop-child-preserved
loop-child-preserved g c =
    let us = c.args.layer.now in
    let i = c.loop-child.child-index in
    let child : EntityUID = c.child-item.result in
    let G = search_graph c.args.store.now.entities c.args.plain c.args.to.now in
    let within : i < length us = omega arith in
    let first : hash_map_len c.loop-child.reached ≡ hash_map_len c.args.reached.now + length c.loop-child.next.items =
    c.loop-child.invariant.count in
    let step : hash_map_len c.visit_parents.new.reached + length c.loop-child.next.items
    ≡ hash_map_len c.loop-child.reached + length c.visit_parents.new.next.items =
    c.in_ok-visit_parents.ensures.count in
    record {
      visits = visits_same
          (λ a b. (is_member same_uid (take i us) a && G a b) || (same_uid child a && G a b))
          (λ a b. is_member same_uid (take (i + 1) us) a && G a b) _ _ _ _
          (λ a b. edges_from (is_member same_uid (take i us) a) (same_uid child a) (G a b)
          ∙ ap (λ m. m && G a b) (sym (member_more us i child a within c.child-item.is)))
          (visits_more (λ a b. is_member same_uid (take i us) a && G a b) (λ a b. same_uid child a && G a b)
          (get same_uid c.args.reached.now) (get same_uid c.loop-child.reached)
          (get same_uid c.visit_parents.new.reached) (λ q. false) (is_member same_uid c.loop-child.next.items)
          (is_member same_uid c.visit_parents.new.next.items) c.loop-child.invariant.visits
          c.in_ok-visit_parents.ensures.visits);
      count = omega arith;
    }

pub returns-clause-visits : goal.returns-clause-visits
returns-clause-visits g c =
    let us = c.args.layer.now in
    let i = c.loop-child.child-index in
    let G = search_graph c.args.store.now.entities c.args.plain c.args.to.now in
    visits_same (λ a b. is_member same_uid (take i us) a && G a b) (λ a b. is_member same_uid us a && G a b) _ _ _ _
    (λ a b. ap (λ l. is_member same_uid l a && G a b) (take_all i us c.loop-child-test.false))
    c.loop-child.invariant.visits
