use Rattle.std.proofs.Common.{◌∙◌, ◌&&◌, ◌||◌, ap, map, sym}
use Rattle.std.proofs.Math.Bool.{and_comm}
use Rattle.std.specs.Set.{is_member}
use Rattle.std.proofs.lemmas.Iterator.Consumers.{YieldsList-from_first, YieldsList-end}
use Rattle.cedar_ids.specs.UidOf.{same_uid}
use Rattle.cedar_children.specs.Children.{is_child}
use Rattle.cedar_children.proofs.Sets.{member_next, more_parents}
use Rattle.cedar_children.proofs.children.Children.with.Goals as goal

pub loop-parent-preserved : goal.loop-parent-preserved
loop-parent-preserved g c p q =
    let old = is_child c.args.self p q in
    let before = is_member same_uid (map (λ x. x.now) c.loop-parent.yielded) p in
    let child = same_uid c.args.child.now q in
    c.in_ok-put.ensures p q
    ∙ ap (λ b. b || (same_uid c.in-Some.parent.now p && child)) (c.loop-parent.invariant p q)
    ∙ more_parents old before (same_uid c.in-Some.parent.now p) child
    ∙ ap (λ b. old || (b && child)) (sym (member_next c.loop-parent.yielded c.in-Some.parent p))

pub returns : goal.returns
returns g c p q =
    let old = is_child c.args.self p q in
    let child = same_uid c.args.child.now q in
    let parents = c.shared_parents-parent-items.result in
    let whole =
    (YieldsList-end (YieldsList-from_first (λ x. x.now)
    (λ l. l) {s = c.into_iter-parent-iterator.result} parents c.into_iter-parent-iterator.ensures.into_iter_gives)
    c.loop-parent.yielded c.loop-parent.parent-iterator c.loop-parent.yielded_by c.next.result c.next.new.self
    c.in-None.is c.next.ensures.steps).0 in
    c.loop-parent.invariant p q ∙ ap (λ l. old || (is_member same_uid l p && child)) whole
    ∙ ap (λ b. old || b) (and_comm (is_member same_uid parents p) child)
    ∙ ap (λ b. old || (child && b)) (c.shared_parents-parent-items.ensures.lists.members p)
