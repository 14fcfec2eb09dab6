use Rattle.std.specs.Prelude.{◌≡◌}
use Rattle.std.specs.FinSet as set
use Rattle.cedar_deep_copy_stores.proofs.entity.add_parents.Given as goal

abbrev pub invariant-loop-parent : goal.invariant-loop-parent
invariant-loop-parent l = l.entity ≡ record l.initial.entity { parents = set.from_list l.yielded }
