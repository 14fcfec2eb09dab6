use Rattle.std.proofs.Common.{◌≡◌, ◌&&◌, map}
use Rattle.std.specs.FinSet as set
use Rattle.std.specs.List.{list_any}
use Rattle.cedar_ids.specs.UidOf.{same_uid}
use Rattle.cedar_ids.specs.declared.entity.EntityUID.{EntityUID}
use Rattle.cedar_children.specs.Children.{is_child}
use Rattle.cedar_queries.proofs.members.children_of.Given as goal

abbrev pub invariant-loop-entity : goal.invariant-loop-entity
invariant-loop-entity g l = (p q : EntityUID) → is_child l.children p q
    ≡ list_any (λ e. same_uid e.uid q && set.contains e.parents p) (map (λ x. x.now) l.yielded)
