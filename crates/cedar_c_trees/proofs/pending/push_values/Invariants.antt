use Rattle.std.proofs.Common.{take}
use Rattle.cedar_terms.specs.ValueTree.{value_trees}
use Rattle.cedar_c_trees.specs.Drafts.{Pushes}
use Rattle.cedar_c_trees.specs.Items.{flats}
use Rattle.cedar_c_trees.specs.Plans.{values_plan}
use Rattle.cedar_c_trees.proofs.pending.push_values.Given as goal

abbrev pub invariant-loop-element : goal.invariant-loop-element
invariant-loop-element l = Pushes (flats (values_plan (value_trees (take l.element-index l.element-items)))) (Unit {0})
    l.initial.pending.items l.pending.items
