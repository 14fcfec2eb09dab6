use Rattle.std.proofs.Common.{refl, sym, subst, length, arith}
use Rattle.std.specs.List.{range_with_len}
use Rattle.std.specs.List.Sorted.{IsPermutation}
use Rattle.std.proofs.lemmas.Iterator.{items_from_collect, YieldsList-from_range}
use Rattle.std.proofs.lemmas.List.Sorted.{IsPermutation-refl}
use Rattle.std.proofs.lemmas.Result.{IfOk-weaker}
use Rattle.cedar_graph.proofs.transitive_closure.TCNode.order.Goals as goal

pub returns : goal.returns
returns g c =
    let n = length c.args.keys.now in
    let listed = range_with_len 0 n in
    IfOk-weaker c.collect.result _ _ (λ v h. subst (IsPermutation listed) (sym h) (IsPermutation-refl listed))
    (items_from_collect c.collect.result c.collect.ensures.ran (YieldsList-from_range 0 n n refl (omega arith)))
