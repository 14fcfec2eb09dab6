use Rattle.std.specs.Prelude.{◌≡◌, map}
use Rattle.cedar_c_stores.specs.laws.Rows.{said_of}
use Rattle.cedar_c_stores.proofs.rows.rows_of.Given as goal

abbrev pub invariant-loop-one : goal.invariant-loop-one
invariant-loop-one l = l.rows.items ≡ map said_of l.yielded
