use Rattle.std.specs.Prelude.{◌≡◌, ◌++◌}
use Rattle.std.specs.List.{flat_map}
use Rattle.cedar_c_sets.specs.Sets.{pair_of}
use Rattle.cedar_c_sets.proofs.reads.texts_of_annotations.Given as goal

abbrev pub invariant-loop-key : goal.invariant-loop-key
invariant-loop-key l = l.answer ++ flat_map pair_of l.key-iterator ≡ flat_map pair_of l.fn.annotations
