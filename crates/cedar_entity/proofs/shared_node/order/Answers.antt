use Rattle.std.proofs.Common.{◌≡◌, refl, subst, length, arith}
use Rattle.std.specs.Prelude.{IfOk}
use Rattle.std.specs.List.{range_with_len}
use Rattle.std.specs.List.Sorted.{IsPermutation}
use Rattle.std.proofs.lemmas.Iterator.{items_from_collect, YieldsList-from_range}
use Rattle.cedar_entity.proofs.shared_node.order.Goals as goal

pub returns : goal.returns
returns c =
    let n = length c.args.keys.now in
    let listed = subst (λ r. IfOk r (λ v. v.items ≡ range_with_len 0 n)) c.in_ok-places.was
    (items_from_collect c.collect.result c.collect.ensures.ran (YieldsList-from_range 0 n n refl (omega arith))) in
    subst (λ l. IsPermutation l c.sort_by.new.self.items) listed c.sort_by.ensures.permutation
