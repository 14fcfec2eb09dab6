use Rattle.std.proofs.Common.{◌≡◌, ℕ, ◌-◌, ◌<◌, ◌≤◌, length, slice_index}
use Rattle.cedar_components.proofs.single.places_after.Given as goal

abbrev pub invariant-loop-place : goal.invariant-loop-place
invariant-loop-place l = record {
  len : length l.component.items ≡ l.n;
  within : (k : ℕ) → k < l.place → (0 < slice_index l.component.items (slice_index l.order k))
      × (slice_index l.component.items (slice_index l.order k) ≤ length l.order);
  stands : (k : ℕ) → k < l.place
      → slice_index l.order (slice_index l.component.items (slice_index l.order k) - 1) ≡ slice_index l.order k;
}
