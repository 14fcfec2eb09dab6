use Rattle.std.proofs.Common.{◌≡◌, ◌<◌, ◌≤◌, ℕ, Some, true, slice_get, slice_index}
use Rattle.cedar_ids.specs.declared.entity.EntityUID.{EntityUID}
use Rattle.cedar_entity.specs.laws.Views.{uid_precedes}
use Rattle.cedar_entity.proofs.shared_node.ascend_at.Given as goal

abbrev pub invariant-loop-k : goal.invariant-loop-k
invariant-loop-k l = record {
  some : 1 ≤ l.k;
  ascend : (i j : ℕ) (x y : EntityUID) → i < j → j < l.k → slice_get l.keys (slice_index l.numbers i) ≡ Some x
      → slice_get l.keys (slice_index l.numbers j) ≡ Some y → uid_precedes x y ≡ true;
}
