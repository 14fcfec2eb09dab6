use Rattle.std.proofs.Common.{◌≡◌, Some, map}
use Rattle.std.specs.FinMap as finmap
use Rattle.cedar_entity_diff.proofs.UidsFound.{HoldsUnless}
use Rattle.cedar_entity_diff.proofs.differing.uids_of_unequal.Given as goal

abbrev pub invariant-loop-entity : goal.invariant-loop-entity
invariant-loop-entity g l =
    HoldsUnless (λ e. finmap.get l.other.entities e.uid ≡ Some e) l.uids.items (map (λ x. x.now) l.yielded)
