use Rattle.std.proofs.Common.{◌≡◌, ◌∙◌, ◌&&◌, ◌||◌, ap, refl, sym}
use Rattle.std.proofs.lemmas.Iterator.Consumers.{YieldsList-from_first, YieldsList-end}
use Rattle.std.specs.FinSet as set
use Rattle.std.specs.List.{list_any}
use Rattle.cedar_children.specs.Children.{is_child}
use Rattle.cedar_ids.specs.UidOf.{same_uid}
use Rattle.cedar_ids.specs.declared.entity.EntityUID.{EntityUID}
use Rattle.cedar_entity.specs.View.{EntityView}
use Rattle.cedar_entity_maps.specs.laws.Indexes.{is_parent_at}
use Rattle.cedar_queries.proofs.Listing.{any_next, in_listed}
use Rattle.cedar_queries.proofs.members.children_of.Goals as goal

pub loop-entity-preserved : goal.loop-entity-preserved
loop-entity-preserved g c p q =
    let test : EntityView → _ = λ e. same_uid e.uid q && set.contains e.parents p in
    let same : c.in_ok-child.child ≡ c.in-Some.entity.now.uid = c.in_ok-child.ensures ∙ c.uid.ensures in
    c.in_ok-children.ensures p q
    ∙ ap (λ (u : EntityUID). is_child c.loop-entity.children p q
    || (same_uid u q && set.contains c.in-Some.entity.now.parents p)) same
    ∙ ap (λ b. b || test c.in-Some.entity.now) (c.loop-entity.invariant p q)
    ∙ sym (any_next test c.loop-entity.yielded c.in-Some.entity)

pub returns : goal.returns
returns g c p q =
    let es = c.iter-entity-items.result in
    let test : EntityView → _ = λ e. same_uid e.uid q && set.contains e.parents p in
    let whole =
    (YieldsList-end (YieldsList-from_first (λ x. x.now)
    (λ l. l) {s = c.into_iter-entity-iterator.result} es c.into_iter-entity-iterator.ensures.into_iter_gives)
    c.loop-entity.yielded c.loop-entity.entity-iterator c.loop-entity.yielded_by c.next.result c.next.new.self
    c.in-None.is c.next.ensures.steps).0 in
    c.loop-entity.invariant p q
    ∙ ap (list_any test) whole
    ∙ in_listed q (λ e. set.contains e.parents p) (λ o. is_parent_at o p) refl (λ e. refl) c.args.store.now.entities es
    c.iter-entity-items.ensures.lists
