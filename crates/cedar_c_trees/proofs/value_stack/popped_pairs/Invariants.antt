use Rattle.std.proofs.Common.{◌≡◌, ◌++◌, ◌-◌, length, map}
use mathlib.Core.List.{reverse}
use Rattle.cedar_terms.specs.ValueViews.{named_pairs}
use Rattle.cedar_c_trees.specs.Items.{pairs_listed}
use Rattle.cedar_c_trees.specs.laws.Stacks.{ArePairsOn, is_text_value}
use Rattle.cedar_c_trees.proofs.value_stack.popped_pairs.Given as goal

abbrev pub invariant-loop-step : goal.invariant-loop-step
invariant-loop-step l = record {
  taken : l.initial.stack.items ≡ l.stack.items ++ pairs_listed (named_pairs (reverse l.pairs.items));
  count : length l.pairs.items ≡ l._step;
  others : ArePairsOn l.count (map is_text_value l.initial.stack.items)
      → ArePairsOn (l.count - l._step) (map is_text_value l.stack.items);
}
