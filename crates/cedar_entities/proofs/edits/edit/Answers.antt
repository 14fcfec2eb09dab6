use Rattle.std.proofs.Common.{ap, length, refl, subst, sym, true, ◌∙◌, ◌≡◌, ◌||◌}
use Rattle.std.specs.Prelude.{◌⊎◌}
use Rattle.std.proofs.lemmas.Result.{on_ok_weaker}
use Rattle.std.specs.FinSet as set
use Rattle.std.specs.HashSet.{contains}
use Rattle.std.specs.Set.{is_member}
use Rattle.cedar_ids.specs.UidOf.{same_uid}
use Rattle.cedar_ids.specs.declared.entity.EntityUID.{EntityUID}
use Rattle.cedar_uid_sets.specs.UidSets.{UidValues}
use Rattle.cedar_uid_sets.specs.laws.Sets.{contains_listed}
use Rattle.cedar_entity_maps.specs.Edits.{uids_of}
use Rattle.cedar_entity_maps.specs.Modes.{computes}
use Rattle.cedar_entity_maps.specs.laws.EntityMap.{entity_at, held_map}
use Rattle.cedar_entity_maps.specs.laws.Seen.{stored}
use Rattle.cedar_entities.proofs.Edited.{known_touched, parents_written}
use Rattle.cedar_entities.proofs.Ending.{ended_kept, ends_nothing}
use Rattle.cedar_entities.proofs.Indexes.{children_back, children_edited, if_some}
use Rattle.cedar_entities.proofs.Overwriting.{last_some}
use Rattle.cedar_entities.proofs.Renewing.{edit_ends}
use Rattle.cedar_entities.proofs.edits.edit.Goals as goal

pub returns-in_err-reading-clause-ends : goal.returns-in_err-reading-clause-ends
returns-in_err-reading-clause-ends g c A M x = ends_nothing c.args.row _ M _ _ c.in_err-reading.field-0.0
    c.in_err-reading.ensures.err c.from_residual.ensures.1

pub returns-in_err-write-clause-ends : goal.returns-in_err-write-clause-ends
returns-in_err-write-clause-ends g c A M x = ends_nothing c.args.row _ M _ _ c.in_err-write.field-0.0
    c.in_err-write.ensures.err c.from_residual-in_err-write.ensures.1

pub returns-clause-ends : goal.returns-clause-ends
returns-clause-ends g c A M x =
    let m = c.args.entities.now in
    let n = c.write.new.entities in
    let r = c.in_ok-reading.reading in
    let is = c.in_ok-reading.ensures.ok in
    let removed = c.args.change.removed in
    let L = c.args.change.incoming.items in
    let all : (q : EntityUID) → is_member same_uid r.uids.items q
    ≡ (is_member same_uid (uids_of L) q || set.contains removed q) = λ q. is.same q ∙ c.requires.uids q in
    edit_ends c.renews-recompute_all.result m n removed L M A r.uids.items r.stale.items c.args.row
    (held_map c.finish.new.entities) c.finish.result (contains same_uid r.affected)
    (λ t. c.requires.index.plain (c.renews-recompute_all.ensures.plain t))
    c.renews-recompute_all.ensures.repairs
    (λ t. subst (λ l. (computes c.args.row ≡ true) ⊎ (length l ≡ 0)) c.deref.ensures.value
    (c.renews-recompute_all.ensures.acyclic t))
    c.requires.removed x all is.who is.lost c.in_ok-write.ensures.ok
    (known_touched (held_map m) r.uids.items A (contains same_uid r.affected)
    (λ q. all q ∙ ap (λ b. b || set.contains removed q) (sym (last_some L q)) ∙ sym (x.applied q)) is.affected)
    c.finish.ensures.ends

pub returns-clause-children : goal.returns-clause-children
returns-clause-children g c =
    let m = c.args.entities.now in
    let n = c.write.new.entities in
    let N = c.finish.new.entities in
    let D = held_map m in
    let r = c.in_ok-reading.reading in
    let is = c.in_ok-reading.ensures.ok in
    let removed = c.args.change.removed in
    on_ok_weaker c.finish.result
    (λ s. children_back N (held_map N) c.join.new.index.children refl
    (if_some _ _ c.join.new.index.children
    (λ ch h p q. h p q ∙ children_edited D (held_map n) (held_map N) (set.contains removed) r.uids.items
    c.deref-2.result.now c.deref-3.result.now c.pointers.result.now (entity_at m) (entity_at n)
    (parents_written m n removed c.args.change.incoming.items r.uids.items r.stale.items
    (λ y. is.same y ∙ c.requires.uids y) is.who c.in_ok-write.ensures.ok)
    (λ y. ap (λ l. is_member same_uid l y) c.deref-2.ensures.value)
    (λ y. ap (λ l. is_member same_uid l y) c.deref-3.ensures.value)
    (λ y. sym (contains_listed c.pointers.result.now y)
    ∙ ap (λ (z : UidValues). set.contains z y) c.pointers.ensures.all)
    (stored m D refl) (stored n (held_map n) refl)
    (ended_kept c.args.row (contains same_uid r.affected) (held_map n) (held_map N) s) p q)
    (c.join.ensures.children _ (c.part.ensures.children (children_back m D c.read.new.index.children refl
    c.read.ensures.index.children)))))
    c.finish.ensures.ends.ok
