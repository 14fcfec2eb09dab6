use Rattle.std.proofs.Common.{◌≡◌, arith, ap, sym, subst, get_or, length}
use Rattle.std.specs.List.{slice_range}
use Rattle.cedar_graph.specs.laws.Ranks.{EndsBelow}
use Rattle.cedar_graph.specs.laws.Writings.{listed}
use Rattle.cedar_graph.proofs.InOrder.{ascending_by_places, part_by_places}
use Rattle.cedar_graph.proofs.close.ascends.Goals as goal

pub ends_below-requires : goal.ends_below-requires
ends_below-requires g c j within =
    omega (arith, c.listed_for-list.ensures.below j within, c.requires.order.ranked.len, ap length c.deref.ensures.value)

pub returns : goal.returns
returns g c = λ is.
    let reached = c.args.reached.now.numbers in
    let x = c.args.x in
    let places = reached.places.items in
    let q = get_or reached.component.items x 0 in
    let reach = c.requires.reach in
    let within = c.requires.within in
    let placed = part_by_places places reached.start.items reached.lists.items q (reach.component_in x within)
    (reach.ordered x within) (reach.inside x within) (c.requires.order.ordered c.if-not-reached.false) in
    let ends = subst (λ v. EndsBelow c.args.reached.now.limit v (listed reached x)) c.deref.ensures.value
    (subst (λ v. EndsBelow c.args.reached.now.limit c.deref.result.now v) c.listed_for-list.ensures.listed
    (c.ends_below.ensures is)) in
    ascending_by_places g.V.TCNode.precedes c.args.read.now.keys.keys c.args.reached.now.limit places (listed reached x)
    c.requires.order.ranked placed ends
