use Rattle.std.specs.Prelude.{◌≡◌, ◌++◌}
use Rattle.cedar_c_stores.proofs.reads.texts_of_keys.Given as goal

abbrev pub invariant-loop-key : goal.invariant-loop-key
invariant-loop-key l = l.answer ++ l.key-iterator ≡ l.fn.keys
