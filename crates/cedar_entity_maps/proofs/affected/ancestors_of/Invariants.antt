use Rattle.std.proofs.Common.{◌≡◌, map}
use Rattle.std.specs.Set.{is_member}
use Rattle.cedar_ids.specs.UidOf.{same_uid}
use Rattle.cedar_ids.specs.declared.entity.EntityUID.{EntityUID}
use Rattle.cedar_entity_maps.proofs.affected.ancestors_of.Given as goal

abbrev pub invariant-loop-ancestor : goal.invariant-loop-ancestor
invariant-loop-ancestor l = (q : EntityUID)
    → is_member same_uid l.all.items q ≡ is_member same_uid (map (λ x. x.now) l.yielded) q
