use Rattle.std.proofs.Common.{◌∙◌, ◌&&◌, ◌||◌, ap, refl, sym}
use Rattle.std.proofs.lemmas.Iterator.Consumers.{YieldsList-from_first, YieldsList-end}
use Rattle.std.specs.List.{list_any}
use Rattle.cedar_ids.specs.UidOf.{same_uid}
use Rattle.cedar_entity.specs.View.{EntityView, has_ancestor}
use Rattle.cedar_entity_maps.specs.Modes.{is_ancestor_in}
use Rattle.cedar_queries.proofs.Listing.{any_next, in_listed}
use Rattle.cedar_queries.proofs.members.with_ancestor.Goals as goal

pub loop-entity-preserved : goal.loop-entity-preserved
loop-entity-preserved g c q =
    let test : EntityView → _ = λ e. same_uid e.uid q && has_ancestor e c.args.ancestor.now in
    c.in_ok-push_descendant.ensures q
    ∙ ap (λ b. b || test c.in-Some.entity.now) (c.loop-entity.invariant q)
    ∙ sym (any_next test c.loop-entity.yielded c.in-Some.entity)

pub returns : goal.returns
returns g c q =
    let es = c.iter-entity-items.result in
    let test : EntityView → _ = λ e. same_uid e.uid q && has_ancestor e c.args.ancestor.now in
    let whole =
    (YieldsList-end (YieldsList-from_first (λ x. x.now)
    (λ l. l) {s = c.into_iter-entity-iterator.result} es c.into_iter-entity-iterator.ensures.into_iter_gives)
    c.loop-entity.yielded c.loop-entity.entity-iterator c.loop-entity.yielded_by c.next.result c.next.new.self
    c.in-None.is c.next.ensures.steps).0 in
    c.loop-entity.invariant q
    ∙ ap (list_any test) whole
    ∙ in_listed q (λ e. has_ancestor e c.args.ancestor.now) (λ o. is_ancestor_in o c.args.ancestor.now) refl
    (λ e. refl) c.args.store.now.entities es c.iter-entity-items.ensures.lists
