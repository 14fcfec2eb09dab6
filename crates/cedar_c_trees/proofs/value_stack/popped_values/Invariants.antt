use Rattle.std.proofs.Common.{◌≡◌, ◌++◌, length}
use mathlib.Core.List.{reverse}
use Rattle.cedar_c_trees.proofs.value_stack.popped_values.Given as goal

abbrev pub invariant-loop-step : goal.invariant-loop-step
invariant-loop-step l = (l.initial.stack.items ≡ l.stack.items ++ reverse l.values.items)
    × (length l.values.items ≡ l._step)
