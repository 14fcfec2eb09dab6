use Rattle.std.proofs.Common.{◌≡◌, ◌∙◌, ap, false, length, map, refl, subst, sym, true, inl, inr}
use Rattle.std.proofs.lemmas.Bool.{false≢true, or_cases}
use Rattle.std.proofs.lemmas.Iterator.Consumers.{YieldsList-from_first, YieldsList-end, YieldsList-turn}
use Rattle.std.proofs.lemmas.List.Folds.{list_any_at}
use Rattle.std.specs.HashSet.{contains}
use Rattle.std.specs.Set.{is_member}
use Rattle.cedar_ids.specs.UidOf.{same_uid}
use Rattle.cedar_ids.specs.laws.UidOfLaws.{same_uid_decides, same_uid_equiv}
use Rattle.cedar_ids.specs.declared.entity.EntityUID.{EntityUID}
use Rattle.cedar_entity_maps.specs.laws.Indexes.{is_parent_at}
use Rattle.cedar_queries.proofs.UidLists.{member_next}
use Rattle.cedar_queries.proofs.members.has_parent_in.Goals as goal

pub returns-then-contains : goal.returns-then-contains
returns-then-contains g c =
    let us = c.shared_parents-parent-items.result in
    let parent : EntityUID = c.in-Some-parent.parent.now in
    let turn =
    YieldsList-turn (YieldsList-from_first (λ x. x.now)
    (λ l. l) {s = c.into_iter-parent-iterator.result} us c.into_iter-parent-iterator.ensures.into_iter_gives)
    c.loop-parent.yielded c.loop-parent.parent-iterator c.loop-parent.yielded_by c.next.result c.next.new.self
    c.in-Some-parent.parent c.in-Some-parent.is c.next.ensures.steps in
    let member : is_member same_uid us parent ≡ true =
    list_any_at (same_uid parent) us (length c.loop-parent.yielded) parent turn.0
    (ap (same_uid parent) (sym turn.1) ∙ same_uid_equiv.refl parent) in
    let edge : is_parent_at _ parent ≡ true =
    ap (λ o. is_parent_at o parent) (sym c.in-Some.ensures.value) ∙ sym (c.shared_parents-parent-items.ensures.lists.members parent)
    ∙ member in
    (λ t. (parent, edge, sym c.contains.ensures ∙ c.if-contains.true), λ e. refl)

pub loop-parent-preserved : goal.loop-parent-preserved
loop-parent-preserved g c p m =
    elim (or_cases (is_member same_uid (map (λ x. x.now) c.loop-parent.yielded) p)
    (same_uid c.in-Some-parent.parent.now p)
    (sym (member_next c.loop-parent.yielded c.in-Some-parent.parent p) ∙ m)) [
      | inl h ↦ c.loop-parent.invariant p h
      | inr h ↦
          subst (λ u. contains same_uid c.args.uids.now u ≡ false) ((same_uid_decides c.in-Some-parent.parent.now p).0 h)
          (sym c.contains.ensures ∙ c.if-contains.false)
    ]

pub returns : goal.returns
returns g c =
    let us = c.shared_parents-parent-items.result in
    let whole =
    (YieldsList-end (YieldsList-from_first (λ x. x.now)
    (λ l. l) {s = c.into_iter-parent-iterator.result} us c.into_iter-parent-iterator.ensures.into_iter_gives)
    c.loop-parent.yielded c.loop-parent.parent-iterator c.loop-parent.yielded_by c.next.result c.next.new.self
    c.in-None.is c.next.ensures.steps).0 in (
      λ t. absurd (false≢true t),
      λ e.
          let member : is_member same_uid us e.0 ≡ true =
          c.shared_parents-parent-items.ensures.lists.members e.0
          ∙ ap (λ o. is_parent_at o e.0) c.in-Some.ensures.value ∙ e.1 in
          absurd (false≢true (sym (c.loop-parent.invariant e.0 (ap (λ l. is_member same_uid l e.0) whole ∙ member)) ∙ e.2)),
    )
