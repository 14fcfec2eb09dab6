use Rattle.std.proofs.Common.{◌≡◌, true, false, is_some, map}
use Rattle.std.specs.FinMap as finmap
use Rattle.std.specs.Set.{is_member}
use Rattle.cedar_ids.specs.UidOf.{same_uid}
use Rattle.cedar_ids.specs.declared.entity.EntityUID.{EntityUID}
use Rattle.cedar_entity_diff.proofs.UidsFound.{HoldsUnless}
use Rattle.cedar_entity_diff.proofs.differing.push_uids_of_new.Given as goal

abbrev pub invariant-loop-entity : goal.invariant-loop-entity
invariant-loop-entity g l = record {
  stays : (q : EntityUID) → is_member same_uid l.uids.items q ≡ false
      → is_member same_uid l.initial.uids.items q ≡ false;
  finds : HoldsUnless (λ e. is_some (finmap.get l.other.entities e.uid) ≡ true) l.uids.items
      (map (λ x. x.now) l.yielded);
}
