use Rattle.std.proofs.Common.{◌≡◌, ◌++◌, List, String}
use Rattle.std.specs.declared.alloc.Global.{Global}
use Rattle.cedar_terms.specs.ValueTree.{ValueTree}
use Rattle.cedar_terms.specs.ValueViews.{field_trees}
use Rattle.cedar_c_trees.specs.Drafts.{Pushes}
use Rattle.cedar_c_trees.specs.Items.{flats}
use Rattle.cedar_c_trees.specs.Plans.{fields_plan}
use Rattle.cedar_c_trees.proofs.pending.push_fields.Given as goal

abbrev pub invariant-loop-key : goal.invariant-loop-key
invariant-loop-key l = (done : List (String Global × ValueTree)) × (l.fields.entries ≡ done ++ l.key-iterator) ×
    Pushes (flats (fields_plan (field_trees done))) (Unit {0}) l.initial.pending.items l.pending.items
