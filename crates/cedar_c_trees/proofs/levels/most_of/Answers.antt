use Rattle.std.proofs.Common.{arith}
use Rattle.cedar_c_trees.proofs.Raised.{most_more}
use Rattle.cedar_c_trees.proofs.levels.most_of.Goals as goal
use Rattle.cedar_c_trees.proofs.levels.most_of.Goals.{then-number-most, else-number-most}

pub loop-number-preserved : goal.loop-number-preserved
loop-number-preserved c =
    let e = most_more c.args.numbers.now c.loop-number.number-index 0 (omega arith) in
    elim c.if-number-most.branch [ then-number-most w ↦ omega (arith, e) | else-number-most w ↦ omega (arith, e) ]
