use Rattle.std.proofs.Common.{◌≡◌, ◌∙◌, ◌+◌, ◌&&◌, ◌||◌, [], ◌∷◌, ◌++◌, ap, arith, length, map, sym}
use Rattle.std.proofs.lemmas.Iterator.Consumers.{YieldsList-from_first, YieldsList-end}
use Rattle.std.specs.FinMap as finmap
use Rattle.std.specs.HashMap.{get, hash_map_len}
use Rattle.std.specs.Set.{is_member}
use Rattle.cedar_ids.specs.UidOf.{same_uid}
use Rattle.cedar_ids.specs.laws.UidOfLaws.{same_uid_decides}
use Rattle.cedar_ids.specs.declared.entity.EntityUID.{EntityUID}
use Rattle.cedar_entity_maps.specs.laws.Indexes.{is_parent_at}
use Rattle.cedar_queries.specs.laws.Searches.{can_lead}
use Rattle.cedar_queries.proofs.UidLists.{member_next}
use Rattle.cedar_queries.proofs.UidVisits.{edges_more, edges_skip, if_first}
use Rattle.cedar_queries.proofs.Visiting.{visits_more, visits_same}
use Rattle.cedar_queries.proofs.search.visit_parents.Goals as goal

pub loop-parent-preserved-then-not-may_lead : goal.loop-parent-preserved-then-not-may_lead
loop-parent-preserved-then-not-may_lead g c =
    let child = c.args.child.now in
    let parent : EntityUID = c.in-Some-parent.parent.now in
    let leads = can_lead c.args.store.now.entities c.args.plain c.args.to.now in
    let done = c.loop-parent.yielded in
    record {
      visits = visits_same (λ a b. same_uid child a && (is_member same_uid (map (λ x. x.now) done) b && leads b))
          (λ a b. same_uid child a
          && (is_member same_uid (map (λ x. x.now) (done ++ c.in-Some-parent.parent ∷ [])) b && leads b)) _ _ _ _
          (λ a b. edges_skip (same_uid child a) (is_member same_uid (map (λ x. x.now) done) b) (same_uid parent b)
          (leads b)
          (λ t. ap leads (sym ((same_uid_decides parent b).0 t)) ∙ sym c.may_lead.ensures ∙ c.if-not-may_lead.true)
          ∙ ap (λ m. same_uid child a && (m && leads b)) (sym (member_next done c.in-Some-parent.parent b)))
          c.loop-parent.invariant.visits;
      count = c.loop-parent.invariant.count;
    }

pub loop-parent-preserved : goal.loop-parent-preserved
loop-parent-preserved g c =
    let child = c.args.child.now in
    let parent : EntityUID = c.in-Some-parent.parent.now in
    let leads = can_lead c.args.store.now.entities c.args.plain c.args.to.now in
    let done = c.loop-parent.yielded in
    let first : hash_map_len c.loop-parent.reached + length c.args.next.now.items
    ≡ hash_map_len c.args.reached.now + length c.loop-parent.next.items = c.loop-parent.invariant.count in
    let step : hash_map_len c.visit.new.reached + length c.loop-parent.next.items
    ≡ hash_map_len c.loop-parent.reached + length c.visit.new.next.items = c.in_ok-visit.ensures.count in
    record {
      visits = visits_same
          (λ a b. (same_uid child a && (is_member same_uid (map (λ x. x.now) done) b && leads b))
          || (same_uid child a && same_uid parent b))
          (λ a b. same_uid child a
          && (is_member same_uid (map (λ x. x.now) (done ++ c.in-Some-parent.parent ∷ [])) b && leads b)) _ _ _ _
          (λ a b. edges_more (same_uid child a) (is_member same_uid (map (λ x. x.now) done) b) (same_uid parent b)
          (leads b)
          (λ t. ap leads (sym ((same_uid_decides parent b).0 t)) ∙ sym c.may_lead.ensures ∙ c.if-not-may_lead.false)
          ∙ ap (λ m. same_uid child a && (m && leads b)) (sym (member_next done c.in-Some-parent.parent b)))
          (visits_more (λ a b. same_uid child a && (is_member same_uid (map (λ x. x.now) done) b && leads b))
          (λ a b. same_uid child a && same_uid parent b) (get same_uid c.args.reached.now)
          (get same_uid c.loop-parent.reached) (get same_uid c.visit.new.reached)
          (is_member same_uid c.args.next.now.items) (is_member same_uid c.loop-parent.next.items)
          (is_member same_uid c.visit.new.next.items) c.loop-parent.invariant.visits c.in_ok-visit.ensures.visits);
      count = omega arith;
    }

pub returns-clause-visits : goal.returns-clause-visits
returns-clause-visits g c =
    let child : EntityUID = c.args.child.now in
    let D = c.args.store.now.entities in
    let us = c.shared_parents-parent-items.result in
    let leads = can_lead c.args.store.now.entities c.args.plain c.args.to.now in
    let whole =
    (YieldsList-end (YieldsList-from_first (λ x. x.now)
    (λ l. l) {s = c.into_iter-parent-iterator.result} us c.into_iter-parent-iterator.ensures.into_iter_gives)
    c.loop-parent.yielded c.loop-parent.parent-iterator c.loop-parent.yielded_by c.next.result c.next.new.self
    c.in-None.is c.next.ensures.steps).0 in
    let parents = λ (b : EntityUID). ap (λ l. is_member same_uid l b) whole
    ∙ c.shared_parents-parent-items.ensures.lists.members b
    ∙ ap (λ o. is_parent_at o b) c.in-Some.ensures.value
    ∙ ap (λ (u : EntityUID). is_parent_at (finmap.get c.args.store.now.entities u) b) c.uid.ensures in
    visits_same
    (λ a b. same_uid child a && (is_member same_uid (map (λ x. x.now) c.loop-parent.yielded) b && leads b))
    (λ a b. same_uid child a && (is_parent_at (finmap.get D a) b && leads b)) _ _ _ _
    (λ a b. ap (λ m. same_uid child a && (m && leads b)) (parents b)
    ∙ if_first (same_uid child a) (is_parent_at (finmap.get D child) b && leads b)
    (is_parent_at (finmap.get D a) b && leads b)
    (λ t. ap (λ (u : EntityUID). is_parent_at (finmap.get D u) b && leads b) ((same_uid_decides child a).0 t)))
    c.loop-parent.invariant.visits
