use Rattle.std.proofs.Common.{◌≡◌, true}
use Rattle.std.specs.List.{All}
use Rattle.cedar_graph.proofs.arcs.count_edged.Given as goal

abbrev pub invariant-loop-key : goal.invariant-loop-key
invariant-loop-key g l = l.count ≡ 0
    → All (λ p. (b : g.row.K.Denot) → g.V.TCNode.edges p.1.now b ≡ true → ⊥) l.yielded
