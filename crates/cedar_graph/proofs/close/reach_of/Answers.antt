use Rattle.std.proofs.Common.{◌≡◌, arith, subst, length}
use Rattle.cedar_components.specs.Reach.{IsRanking}
use Rattle.cedar_graph.specs.laws.Ranks.{AreRanked}
use Rattle.cedar_graph.proofs.InOrder.{ranked_by_order}
use Rattle.cedar_graph.proofs.close.reach_of.Goals as goal

pub returns-clause-order : goal.returns-clause-order
returns-clause-order g c =
    let precedes = g.V.TCNode.precedes in
    let limit = c.in_ok-order.order.ascending in
    let order = c.in_ok-order.order.numbers.items in
    let places = c.in_ok-numbers.numbers.places.items in
    record {
      ranked = subst (λ v. AreRanked precedes v limit places) c.as_slice-keys.ensures.keys
          (ranked_by_order precedes c.as_slice-keys.result.now limit order places c.in_ok-order.ensures.most
          (subst (λ v. IsRanking (length c.as_slice-keys.result.now) v places) c.deref-4.ensures.value
          c.in_ok-numbers.ensures.places) c.in_ok-order.ensures.ascending);
      ordered = c.in_ok-numbers.ensures.order;
    }
