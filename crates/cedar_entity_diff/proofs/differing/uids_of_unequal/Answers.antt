use Rattle.std.proofs.Common.{◌≡◌, Some, subst}
use Rattle.std.proofs.lemmas.Iterator.Consumers.{YieldsList-from_first, YieldsList-end}
use Rattle.std.specs.FinMap as finmap
use Rattle.cedar_ids.specs.declared.entity.EntityUID.{EntityUID}
use Rattle.cedar_entity.specs.View.{EntityView}
use Rattle.cedar_entity_diff.proofs.UidsFound.{HoldsUnless, at_key, holds_at, holds_more}
use Rattle.cedar_entity_diff.proofs.differing.uids_of_unequal.Goals as goal

pub loop-entity-preserved : goal.loop-entity-preserved
loop-entity-preserved g c =
    holds_more (λ (e : EntityView). finmap.get c.args.other.now.entities e.uid ≡ Some e) c.loop-entity.uids.items
    c.push_unless_equal.new.uids.items c.loop-entity.yielded c.in-Some.entity c.loop-entity.invariant
    c.in_ok-push_unless_equal.ensures

pub returns-clause-finds : goal.returns-clause-finds
returns-clause-finds g c q m =
    let es = c.iter-entity-items.result in
    let old = finmap.get c.args.store.now.entities in
    let new = finmap.get c.args.other.now.entities in
    let whole =
    (YieldsList-end (YieldsList-from_first (λ x. x.now)
    (λ l. l) {s = c.into_iter-entity-iterator.result} es c.into_iter-entity-iterator.ensures.into_iter_gives)
    c.loop-entity.yielded c.loop-entity.entity-iterator c.loop-entity.yielded_by c.next.result c.next.new.self
    c.in-None.is c.next.ensures.steps).0 in
    let holds = subst (HoldsUnless (λ (e : EntityView). new e.uid ≡ Some e) c.loop-entity.uids.items) whole
    c.loop-entity.invariant in
    at_key (λ (u : EntityUID) (e : EntityView). new u ≡ Some e) q (old q) (c.iter-entity-items.ensures.keyed q)
    (holds_at (λ (e : EntityView). new e.uid ≡ Some e) c.loop-entity.uids.items c.args.store.now.entities es
    c.iter-entity-items.ensures.lists c.iter-entity-items.ensures.keyed holds q m)
