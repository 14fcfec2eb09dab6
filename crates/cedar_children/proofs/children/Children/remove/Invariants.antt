use Rattle.std.proofs.Common.{◌≡◌, ◌&&◌, not, map}
use Rattle.std.specs.Set.{is_member}
use Rattle.cedar_ids.specs.UidOf.{same_uid}
use Rattle.cedar_ids.specs.declared.entity.EntityUID.{EntityUID}
use Rattle.cedar_children.specs.Children.{is_child}
use Rattle.cedar_children.proofs.children.Children.remove.Given as goal

abbrev pub invariant-loop-parent : goal.invariant-loop-parent
invariant-loop-parent g l = (p q : EntityUID)
    → is_child l.self p q
    ≡ (is_child l.initial.self p q && not (is_member same_uid (map (λ x. x.now) l.yielded) p && same_uid l.child q))
