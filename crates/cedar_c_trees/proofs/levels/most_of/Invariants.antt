use Rattle.std.proofs.Common.{◌≡◌, take}
use Rattle.cedar_c_trees.specs.laws.Levels.{most}
use Rattle.cedar_c_trees.proofs.levels.most_of.Given as goal

abbrev pub invariant-loop-number : goal.invariant-loop-number
invariant-loop-number l = l.most ≡ most (take l.number-index l.numbers)
