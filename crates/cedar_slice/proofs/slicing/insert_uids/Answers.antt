use Rattle.std.proofs.Common.{ap, sym, ◌∙◌, ◌||◌, cond, true, map}
use Rattle.std.proofs.lemmas.Iterator.Consumers.{YieldsList-from_first, YieldsList-end}
use Rattle.std.specs.HashSet.{contains}
use Rattle.std.specs.Set.{is_member}
use Rattle.cedar_ids.specs.UidOf.{same_uid}
use Rattle.cedar_slice.proofs.Wanting.{map_append_one, noted_push}
use Rattle.cedar_slice.proofs.slicing.insert_uids.Goals as goal

pub loop-uid-preserved : goal.loop-uid-preserved
loop-uid-preserved g c q =
    let done = map (λ x. x.now) c.loop-uid.yielded in
    let first = contains same_uid c.args.noted.now q in
    noted_push first (contains same_uid c.loop-uid.noted q)
    (contains same_uid c.insert.new.self q) done c.in-Some.uid.now q (c.loop-uid.invariant q)
    (c.in_ok-insert.ensures.updates.0 q ∙ ap (λ k. cond (same_uid k q) true
    (contains same_uid c.loop-uid.noted q)) c.in_ok-clone.ensures.cases)
    ∙ ap (λ k. first || is_member same_uid k q) (sym (map_append_one (λ x. x.now) c.loop-uid.yielded c.in-Some.uid))

pub returns : goal.returns
returns g c q =
    let us = c.args.uids in
    let whole =
    (YieldsList-end (YieldsList-from_first (λ x. x.now)
    (λ l. l) {s = c.into_iter-uid-iterator.result} us c.into_iter-uid-iterator.ensures.into_iter_gives)
    c.loop-uid.yielded c.loop-uid.uid-iterator c.loop-uid.yielded_by c.next.result c.next.new.self c.in-None.is
    c.next.ensures.steps).0 in
    c.loop-uid.invariant q
    ∙ ap (λ l. contains same_uid c.args.noted.now q || is_member same_uid l q) whole
