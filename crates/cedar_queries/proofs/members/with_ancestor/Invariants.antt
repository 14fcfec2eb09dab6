use Rattle.std.proofs.Common.{◌≡◌, ◌&&◌, map}
use Rattle.std.specs.List.{list_any}
use Rattle.std.specs.Set.{is_member}
use Rattle.cedar_ids.specs.UidOf.{same_uid}
use Rattle.cedar_ids.specs.declared.entity.EntityUID.{EntityUID}
use Rattle.cedar_entity.specs.View.{has_ancestor}
use Rattle.cedar_queries.proofs.members.with_ancestor.Given as goal

abbrev pub invariant-loop-entity : goal.invariant-loop-entity
invariant-loop-entity g l = (q : EntityUID) → is_member same_uid l.uids.items q
    ≡ list_any (λ e. same_uid e.uid q && has_ancestor e l.ancestor) (map (λ x. x.now) l.yielded)
