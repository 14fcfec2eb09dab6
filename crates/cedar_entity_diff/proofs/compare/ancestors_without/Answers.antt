use Rattle.std.proofs.Common.{◌∙◌, filter, ap}
use Rattle.std.proofs.lemmas.Iterator.Consumers.{YieldsList-from_first, YieldsList-end}
use Rattle.cedar_entity_diff.specs.laws.Listed.{is_no_ancestor}
use Rattle.cedar_entity_diff.proofs.Comparing.{set_without}
use Rattle.cedar_entity_diff.proofs.compare.ancestors_without.Goals as goal

pub returns : goal.returns
returns c =
    let us = c.shared_ancestors-uid-items.result in
    let whole =
    (YieldsList-end (YieldsList-from_first (λ x. x.now)
    (λ l. l) {s = c.into_iter-uid-iterator.result} us c.into_iter-uid-iterator.ensures.into_iter_gives)
    c.loop-uid.yielded c.loop-uid.uid-iterator c.loop-uid.yielded_by c.next.result c.next.new.self
    c.in-None.is c.next.ensures.steps).0 in
    set_without c.args.entity.now c.args.other.now c.loop-uid.uids.items us c.shared_ancestors-uid-items.ensures
    (c.loop-uid.invariant ∙ ap (filter (is_no_ancestor c.args.other.now)) whole) c.from_pointers.result
    c.from_pointers.ensures
