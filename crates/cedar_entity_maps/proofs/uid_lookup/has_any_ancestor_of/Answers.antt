use Rattle.std.proofs.Common.{◌≡◌, ◌∙◌, ap, sym, length, true}
use Rattle.std.specs.List.{list_any}
use Rattle.std.specs.Set.{is_member}
use Rattle.std.proofs.lemmas.Iterator.Consumers.{YieldsList-from_first, YieldsList-end, YieldsList-turn}
use Rattle.std.proofs.lemmas.List.Folds.{list_any_at}
use Rattle.cedar_ids.specs.UidOf.{same_uid}
use Rattle.cedar_entity.specs.laws.Views.{ancestors_listed}
use Rattle.cedar_entity_maps.proofs.AffectedLists.{meet}
use Rattle.cedar_entity_maps.proofs.uid_lookup.has_any_ancestor_of.Goals as goal

pub returns-then-contains : goal.returns-then-contains
returns-then-contains g c =
    let us = c.ancestors-uid-items.result in
    let keys = c.args.uids.now.keys in
    let turn =
    YieldsList-turn (YieldsList-from_first (λ x. x.now)
    (λ l. l) {s = c.into_iter-uid-iterator.result} us c.into_iter-uid-iterator.ensures.into_iter_gives)
    c.loop-uid.yielded c.loop-uid.uid-iterator c.loop-uid.yielded_by c.next.result c.next.new.self c.in-Some.uid
    c.in-Some.is c.next.ensures.steps in
    let hit : is_member same_uid keys c.in-Some.uid.now ≡ true = sym c.contains.ensures ∙ c.if-contains.true in
    sym (list_any_at (is_member same_uid keys) us (length c.loop-uid.yielded) c.in-Some.uid.now turn.0
    (ap (is_member same_uid keys) (sym turn.1) ∙ hit))
    ∙ meet us keys
    ∙ ap (λ f. list_any f keys) (λ i k. ancestors_listed c.args.entity.now us c.ancestors-uid-items.ensures k i)

pub returns : goal.returns
returns g c =
    let us = c.ancestors-uid-items.result in
    let keys = c.args.uids.now.keys in
    let whole =
    (YieldsList-end (YieldsList-from_first (λ x. x.now)
    (λ l. l) {s = c.into_iter-uid-iterator.result} us c.into_iter-uid-iterator.ensures.into_iter_gives)
    c.loop-uid.yielded c.loop-uid.uid-iterator c.loop-uid.yielded_by c.next.result c.next.new.self c.in-None.is
    c.next.ensures.steps).0 in
    sym c.loop-uid.invariant
    ∙ ap (list_any (is_member same_uid keys)) whole
    ∙ meet us keys
    ∙ ap (λ f. list_any f keys) (λ i k. ancestors_listed c.args.entity.now us c.ancestors-uid-items.ensures k i)
