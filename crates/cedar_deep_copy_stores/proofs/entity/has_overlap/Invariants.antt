use Rattle.std.specs.Prelude.{◌≡◌, false, map}
use Rattle.std.specs.FinSet as set
use Rattle.std.specs.List.{AllByRecursion}
use Rattle.cedar_deep_copy_stores.proofs.entity.has_overlap.Given as goal

abbrev pub invariant-loop-parent : goal.invariant-loop-parent
invariant-loop-parent l = AllByRecursion (λ p. set.contains l.entity.indirect p ≡ false) (map (λ x. x.now) l.yielded)
