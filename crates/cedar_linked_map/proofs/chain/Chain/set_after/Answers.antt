use Rattle.std.proofs.Common.{refl, sym}
use Rattle.cedar_linked_map.proofs.Nodes.{noted_set, noted_kept, set_shown}
use Rattle.cedar_linked_map.proofs.chain.Chain.set_after.Goals as goal

pub returns-in-Some-clause-after : goal.returns-in-Some-clause-after
returns-in-Some-clause-after g c = λ u.
    noted_set (λ n. n.after) _ _ c.args.at c.in-Some.node.now _ u (sym c.in-Some.ensures.value) c.if-at-eq-END.false

pub returns-in-Some-clause-before : goal.returns-in-Some-clause-before
returns-in-Some-clause-before g c = λ u.
    noted_kept (λ n. n.before) _ _ c.args.at c.in-Some.node.now _ u (sym c.in-Some.ensures.value) refl

pub returns-in-Some-clause-cells : goal.returns-in-Some-clause-cells
returns-in-Some-clause-cells g c =
    set_shown (λ n. n.value) _ c.args.at c.in-Some.node.now _ (sym c.in-Some.ensures.value) refl
