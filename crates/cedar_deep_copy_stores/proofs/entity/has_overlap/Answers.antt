use Rattle.std.proofs.Common.{subst, ◌≡◌, ◌∙◌, false}
use Rattle.std.proofs.lemmas.Iterator.Consumers.{YieldsList-from_first, YieldsList-end}
use Rattle.std.specs.FinSet as set
use Rattle.std.specs.List.{AllByRecursion}
use Rattle.cedar_ids.specs.declared.entity.EntityUID.{EntityUID}
use Rattle.cedar_deep_copy_stores.proofs.SameEntity.{holds_of}
use Rattle.cedar_deep_copy_stores.proofs.entity.has_overlap.Goals as goal

pub returns : goal.returns
returns c = λ _ x m.
    let us = c.parents-parent-items.result in
    let whole =
    (YieldsList-end (YieldsList-from_first (λ x. x.now)
    (λ l. l) {s = c.into_iter-parent-iterator.result} us c.into_iter-parent-iterator.ensures.into_iter_gives)
    c.loop-parent.yielded c.loop-parent.parent-iterator c.loop-parent.yielded_by c.next.result c.next.new.self
    c.in-None.is c.next.ensures.steps).0 in
    let none : EntityUID → Type 0 = λ p. set.contains c.args.entity.now.indirect p ≡ false in
    holds_of none us x (subst (AllByRecursion none) whole c.loop-parent.invariant)
    (c.parents-parent-items.ensures.lists.members x ∙ m)
