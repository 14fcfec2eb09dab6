use Rattle.std.proofs.Common.{arith, ℕ, ◌≤◌, ◌++◌, length, map, get_or, sym, ap, subst, ◌∙◌}
use Rattle.std.specs.List.Sorted.{IsPermutation}
use Rattle.std.proofs.lemmas.List.{take_all}
use Rattle.cedar_graph.proofs.Orders.{order_inside, placed}
use Rattle.cedar_graph.proofs.order.at_places.Goals as goal

pub offset_bounds-numbers-place : goal.offset_bounds-numbers-place
offset_bounds-numbers-place c =
    let inside = order_inside (length c.args.numbers.now) c.args.places.now c.requires c.loop-place.place-index
    (omega arith) in
    omega (arith, inside)

pub bounds-numbers-place : goal.bounds-numbers-place
bounds-numbers-place c =
    order_inside (length c.args.numbers.now) c.args.places.now c.requires c.loop-place.place-index (omega arith)

pub returns : goal.returns
returns c =
    let numbers = c.args.numbers.now in
    let at : ℕ → ℕ = λ p. get_or numbers p 0 in
    let over : length c.args.places.now ≤ c.loop-place.place-index = omega arith in
    let all = c.loop-place.invariant ∙ ap (map at) (take_all c.loop-place.place-index c.args.places.now over) in
    subst (λ v. IsPermutation (numbers ++ c.args.others.now) v)
    (sym (c.in_ok-extend_from_slice.ensures.items ∙ ap (λ v. v ++ c.args.others.now) all))
    (placed numbers c.args.others.now c.args.places.now c.requires)
