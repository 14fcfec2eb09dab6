use Rattle.std.specs.Prelude.{take}
use Rattle.cedar_c_bodies.specs.Annotated.{ArePairsAt}
use Rattle.cedar_c_bodies.proofs.annotated.pairs_at.Given as goal

abbrev pub invariant-loop-at : goal.invariant-loop-at
invariant-loop-at l = ArePairsAt l.text l.pairs.items (take l.at-index l.annotations)
