use Rattle.std.proofs.Common.{◌∷◌, ◌++◌, [], sym, subst}
use Rattle.std.specs.List.Sorted.{IsPermutation}
use Rattle.cedar_graph.proofs.Orders.{insert_first_child}
use Rattle.cedar_graph.proofs.order.put.Goals as goal

pub returns-in_ok-push-2-clause-all : goal.returns-in_ok-push-2-clause-all
returns-in_ok-push-2-clause-all g c =
    let led = c.args.parts.now.led.items in
    let others = c.args.parts.now.others.items in
    subst (λ v. IsPermutation (led ++ others ++ c.args.number ∷ []) (v ++ others)) (sym c.in_ok-push-2.ensures.items)
    (insert_first_child led others c.args.number)
