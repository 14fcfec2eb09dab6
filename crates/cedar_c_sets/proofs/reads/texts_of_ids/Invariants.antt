use Rattle.std.specs.Prelude.{◌≡◌, ◌++◌}
use Rattle.cedar_c_sets.proofs.reads.texts_of_ids.Given as goal

abbrev pub invariant-loop-id : goal.invariant-loop-id
invariant-loop-id l = l.answer ++ l.id-iterator ≡ l.fn.ids
