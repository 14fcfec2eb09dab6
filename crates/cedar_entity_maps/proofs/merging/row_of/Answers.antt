use Rattle.std.proofs.Common.{◌∙◌, ◌||◌, Bool, ap, sym, map}
use Rattle.std.specs.FinSet as set
use Rattle.cedar_ids.specs.UidOf.{uid_order}
use Rattle.cedar_uid_sets.specs.UidSets.{UidValues}
use Rattle.cedar_ids.specs.declared.entity.EntityUID.{EntityUID}
use Rattle.std.specs.List.{list_any}
use Rattle.std.proofs.lemmas.Iterator.Consumers.{YieldsList-from_first, YieldsList-end}
use Rattle.cedar_entity_maps.specs.Modes.{is_ancestor_in}
use Rattle.cedar_entity_maps.specs.laws.EntityMap.{entity_at}
use Rattle.cedar_entity_maps.proofs.MergedRows.{any_next, row_collected}
use Rattle.cedar_entity_maps.proofs.merging.row_of.Goals as goal

pub loop-uid-init : goal.loop-uid-init
loop-uid-init g c q = ap (λ (s : UidValues). set.contains s q) c.new-row.ensures ∙ set.contains-empty uid_order q

pub loop-uid-preserved : goal.loop-uid-preserved
loop-uid-preserved g c q =
    let f : EntityUID → Bool = λ y. is_ancestor_in (entity_at c.args.entities.now y) q in
    c.in_ok-count.ensures q ∙ ap (λ b. b || f c.in-Some.uid.now) (c.loop-uid.invariant q)
    ∙ sym (any_next f c.loop-uid.yielded c.in-Some.uid)

pub returns : goal.returns
returns g c =
    let us = c.shared_ancestors-uid-items.result in
    let whole =
    (YieldsList-end (YieldsList-from_first (λ x. x.now)
    (λ l. l) {s = c.into_iter-uid-iterator.result} us c.into_iter-uid-iterator.ensures.into_iter_gives)
    c.loop-uid.yielded c.loop-uid.uid-iterator c.loop-uid.yielded_by c.next.result c.next.new.self c.in-None.is
    c.next.ensures.steps).0 in
    row_collected (entity_at c.args.entities.now) c.args.entity.now us c.loop-uid.row
    c.shared_ancestors-uid-items.ensures
    (λ q. c.loop-uid.invariant q ∙ ap (list_any (λ y. is_ancestor_in (entity_at c.args.entities.now y) q)) whole)
