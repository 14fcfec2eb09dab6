use Rattle.std.proofs.Common.{◌≡◌, ◌+◌, ◌≤◌, ◌<◌, ◌++◌, arith, ap, sym, subst, ◌∙◌, take, get_or, length, length-append}
use Rattle.std.specs.List.{range_with_len}
use Rattle.std.specs.List.Sorted.{IsPermutation}
use Rattle.std.proofs.lemmas.List.{get_or-take, length-take-le}
use Rattle.std.proofs.lemmas.List.Sorted.{IsPermutation-trans, length_permutation}
use Rattle.cedar_graph.specs.Ascending.{IsAscendingAt}
use Rattle.cedar_graph.proofs.InOrder.{take_again}
use Rattle.cedar_graph.proofs.Orders.{order_inside}
use Rattle.cedar_graph.proofs.order.order_of.Goals as goal

pub slice_bounds-count_ascending-end : goal.slice_bounds-count_ascending-end
slice_bounds-count_ascending-end g c =
    let parts = c.in_ok-parts.parts in
    let order = c.in_ok-order.order.items in
    let at_led = subst (λ v. IsPermutation (v ++ c.deref-4.result.now) order) c.deref-2.ensures.value
    c.in_ok-order.ensures in
    let bound : c.len.result ≤ length c.deref-5.result.now =
    omega (
      arith,
      length_permutation (parts.led.items ++ c.deref-4.result.now) order at_led,
      length-append parts.led.items c.deref-4.result.now,
      ap length c.deref-5.ensures.value,
    ) in
    sym (length-take-le c.len.result c.deref-5.result.now bound)

pub count_ascending-ascending-requires : goal.count_ascending-ascending-requires
count_ascending-ascending-requires g c j within =
    let parts = c.in_ok-parts.parts in
    let order = c.in_ok-order.order.items in
    let n = length c.args.keys.now in
    let at_led = subst (λ v. IsPermutation (v ++ c.deref-4.result.now) order) c.deref-2.ensures.value
    c.in_ok-order.ensures in
    let at_both = subst (λ v. IsPermutation (parts.led.items ++ v) order) c.deref-4.ensures.value at_led in
    let all = IsPermutation-trans (range_with_len 0 n) (parts.led.items ++ parts.others.items) order
    c.in_ok-parts.ensures.all at_both in
    let bound : c.len.result ≤ length c.deref-5.result.now =
    omega (
      arith,
      length_permutation (parts.led.items ++ c.deref-4.result.now) order at_led,
      length-append parts.led.items c.deref-4.result.now,
      ap length c.deref-5.ensures.value,
    ) in
    let len = length-take-le c.len.result c.deref-5.result.now bound in
    let inside : j < c.len.result = omega (arith, within, len) in
    let at : get_or (take c.len.result c.deref-5.result.now) j 0 ≡ get_or order j 0 =
    get_or-take c.len.result c.deref-5.result.now j 0 inside ∙ ap (λ v. get_or v j 0) c.deref-5.ensures.value in
    subst (λ k. k < n) (sym at) (order_inside n order all j (omega (arith, inside, bound, ap length c.deref-5.ensures.value)))

pub returns-clause-all : goal.returns-clause-all
returns-clause-all g c =
    let parts = c.in_ok-parts.parts in
    let order = c.in_ok-order.order.items in
    let at_led = subst (λ v. IsPermutation (v ++ c.deref-4.result.now) order) c.deref-2.ensures.value
    c.in_ok-order.ensures in
    let at_both = subst (λ v. IsPermutation (parts.led.items ++ v) order) c.deref-4.ensures.value at_led in
    IsPermutation-trans (range_with_len 0 (length c.args.keys.now)) (parts.led.items ++ parts.others.items) order
    c.in_ok-parts.ensures.all at_both

pub returns-clause-most : goal.returns-clause-most
returns-clause-most g c =
    let parts = c.in_ok-parts.parts in
    let order = c.in_ok-order.order.items in
    let at_led = subst (λ v. IsPermutation (v ++ c.deref-4.result.now) order) c.deref-2.ensures.value
    c.in_ok-order.ensures in
    let bound : c.len.result ≤ length c.deref-5.result.now =
    omega (
      arith,
      length_permutation (parts.led.items ++ c.deref-4.result.now) order at_led,
      length-append parts.led.items c.deref-4.result.now,
      ap length c.deref-5.ensures.value,
    ) in
    let len = length-take-le c.len.result c.deref-5.result.now bound in
    omega (arith, c.count_ascending-ascending.ensures.most, len, bound, ap length c.deref-5.ensures.value)

pub returns-clause-ascending : goal.returns-clause-ascending
returns-clause-ascending g c =
    let parts = c.in_ok-parts.parts in
    let order = c.in_ok-order.order.items in
    let at_led = subst (λ v. IsPermutation (v ++ c.deref-4.result.now) order) c.deref-2.ensures.value
    c.in_ok-order.ensures in
    let bound : c.len.result ≤ length c.deref-5.result.now =
    omega (
      arith,
      length_permutation (parts.led.items ++ c.deref-4.result.now) order at_led,
      length-append parts.led.items c.deref-4.result.now,
      ap length c.deref-5.ensures.value,
    ) in
    let len = length-take-le c.len.result c.deref-5.result.now bound in
    let n = c.count_ascending-ascending.result in
    let le : n ≤ c.len.result = omega (arith, c.count_ascending-ascending.ensures.most, len) in
    let precedes = g.V.TCNode.precedes in
    let keys = c.args.keys.now in
    subst (λ v. IsAscendingAt precedes keys (take n v)) c.deref-5.ensures.value
    (subst (λ v. IsAscendingAt precedes keys v) (take_again n c.len.result c.deref-5.result.now le)
    c.count_ascending-ascending.ensures.ascending)
