use Rattle.std.specs.Prelude.{◌≡◌, ◌++◌}
use Rattle.cedar_c_sets.specs.Sets.{renaming_texts}
use Rattle.cedar_c_sets.proofs.set_state.texts_of_renaming.Given as goal

abbrev pub invariant-loop-old : goal.invariant-loop-old
invariant-loop-old g l = l.answer ++ renaming_texts l.old-iterator ≡ renaming_texts l.renaming.entries
