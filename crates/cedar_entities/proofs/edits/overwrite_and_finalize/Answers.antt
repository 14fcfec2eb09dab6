use Rattle.std.proofs.Common.{List, Ok, ap, refl, subst, sym, ◌∙◌, ◌||◌}
use Rattle.std.specs.List.{AllByRecursion}
use Rattle.cedar_entity.specs.View.{EntityView}
use Rattle.cedar_entity_maps.specs.Modes.{rules_of}
use Rattle.cedar_entities.specs.laws.SameParents.{KeepsParents}
use Rattle.cedar_entities.proofs.Ending.{ends_nothing}
use Rattle.cedar_entities.proofs.InPlace.{in_place_ends, in_place_parents}
use Rattle.cedar_entities.proofs.Indexes.{children_back, if_some}
use Rattle.std.proofs.lemmas.Bool.{both_ways}
use Rattle.std.specs.FinSet as set
use Rattle.std.specs.Set.{is_member}
use Rattle.cedar_ids.specs.UidOf.{same_uid, uid_order}
use Rattle.cedar_entity_maps.specs.Edits.{overwrite, uids_of}
use Rattle.cedar_entity_maps.specs.Affected.{is_affected}
use Rattle.cedar_entity_maps.specs.laws.Ends.{Ends}
use Rattle.cedar_entity_maps.specs.laws.EntityMap.{held_map}
use Rattle.cedar_entities.proofs.Edited.{over_made}
use Rattle.cedar_entity_maps.specs.laws.StaleUidLaws.{or_off}
use Rattle.cedar_entities.proofs.edits.overwrite_and_finalize.Goals as goal

pub edit-requires-clause-uids : goal.edit-requires-clause-uids
edit-requires-clause-uids g c q =
    ap (λ l. is_member same_uid l q) (c.in_ok-uids.ensures ∙ ap uids_of c.deref-2.ensures.value)
    ∙ or_off (is_member same_uid (uids_of c.args.incoming.items) q)
    ∙ ap (λ b. is_member same_uid (uids_of c.args.incoming.items) q || b)
    (sym (ap (λ s. set.contains s q) c.new-removed.ensures ∙ set.contains-empty uid_order q))

pub edit-requires-clause-removed : goal.edit-requires-clause-removed
edit-requires-clause-removed g c q t = absurd (both_ways (set.contains c.new-removed.result q)
    (ap (λ s. set.contains s q) c.new-removed.ensures ∙ set.contains-empty uid_order q) t)

pub returns-in_err-overwrite_in_place-clause-ends : goal.returns-in_err-overwrite_in_place-clause-ends
returns-in_err-overwrite_in_place-clause-ends g c =
    ends_nothing (rules_of c.args.tc_computation) _ _ _ _ c.in_err-overwrite_in_place.field-0.0
    c.in_err-overwrite_in_place.ensures.err c.from_residual.ensures.1

pub returns-then-keep_parents-clause-ends : goal.returns-then-keep_parents-clause-ends
returns-then-keep_parents-clause-ends g c =
    in_place_ends (held_map c.args.entities.now) (held_map c.overwrite_in_place.new.entities) c.args.incoming.items
    (rules_of c.args.tc_computation) (Ok tt) (c.requires.index.plain c.if-index.true)
    (sym c.computes.ensures ∙ c.if-computes.true) (subst (λ (l : List EntityView). AllByRecursion (KeepsParents (held_map c.args.entities.now)) l) c.deref.ensures.value
    (c.keep_parents.ensures c.if-keep_parents.true)) c.in_ok-overwrite_in_place.ensures.ok tt

pub returns-then-keep_parents-clause-children : goal.returns-then-keep_parents-clause-children
returns-then-keep_parents-clause-children g c =
    let n = c.overwrite_in_place.new.entities in
    children_back n (held_map n) c.args.index.now.children refl
    (if_some _ _ c.args.index.now.children
    (λ ch h p q. h p q ∙ sym (in_place_parents (c.requires.index.plain c.if-index.true).1 c.args.incoming.items
    (held_map n) (subst (λ (l : List EntityView). AllByRecursion (KeepsParents (held_map c.args.entities.now)) l) c.deref.ensures.value
    (c.keep_parents.ensures c.if-keep_parents.true)) c.in_ok-overwrite_in_place.ensures.ok p q)) c.requires.index.children)

pub returns-clause-ends : goal.returns-clause-ends
returns-clause-ends g c =
    let D = held_map c.args.entities.now in
    let L = c.args.incoming.items in
    subst (λ r. Ends r (is_affected D (uids_of L)) (overwrite D L) (held_map c.edit.new.entities) c.edit.result)
    c.rules_of.ensures
    (c.edit.ensures.ends (uids_of L) (overwrite D L) (over_made D L c.new-removed.result c.new-removed.ensures))
