use Rattle.std.proofs.Common.{◌∙◌, ◌&&◌, ap, map, not, sym}
use Rattle.std.specs.Set.{is_member}
use Rattle.cedar_ids.specs.UidOf.{same_uid}
use Rattle.cedar_children.specs.Children.{is_child}
use Rattle.cedar_children.proofs.Sets.{fewer_parents, member_next}
use Rattle.cedar_children.proofs.children.Children.remove.Goals as goal

pub loop-parent-preserved : goal.loop-parent-preserved
loop-parent-preserved g c p q =
    let old = is_child c.args.self.now p q in
    let before = is_member same_uid (map (λ x. x.now) c.loop-parent.yielded) p in
    let child = same_uid c.args.child.now q in
    c.take.ensures p q
    ∙ ap (λ b. b && not (same_uid c.in-Some.parent.now p && child)) (c.loop-parent.invariant p q)
    ∙ fewer_parents old before (same_uid c.in-Some.parent.now p) child
    ∙ ap (λ b. old && not (b && child)) (sym (member_next c.loop-parent.yielded c.in-Some.parent p))
