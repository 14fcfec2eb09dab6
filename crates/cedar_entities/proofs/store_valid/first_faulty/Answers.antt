use Rattle.std.specs.Option.{option_copied}
use Rattle.std.specs.Map.Iter.{deref_pair}
use Rattle.std.proofs.Common.{subst}
use Rattle.std.proofs.lemmas.Map.Iter.{iter_end, hash_map_turn}
use Rattle.cedar_ids.specs.laws.UidOfLaws.{same_uid_equiv}
use Rattle.cedar_entity_maps.specs.laws.EntityMap.{entity_at, shared}
use Rattle.cedar_entities.specs.laws.StoreFaults.{TakesFaulty}
use Rattle.cedar_entities.proofs.FirstFaults.{at_own_uid, first_step, first_of_all}
use Rattle.cedar_entities.proofs.store_valid.first_faulty.Goals as goal

pub loop-uid-preserved : goal.loop-uid-preserved
loop-uid-preserved g c =
    let m = c.args.entities.now in
    let gives = c.into_iter-uid-iterator.ensures.into_iter_gives in
    let found =
    (hash_map_turn deref_pair c.loop-uid.yielded c.into_iter-uid-iterator.result c.loop-uid._uid-iterator
    c.next.new.self c.next.result (
      c.in-Some._uid,
      c.in-Some.node,
    ) c.loop-uid.yielded_by c.in-Some.is c.next.ensures.steps same_uid_equiv m gives.0
    gives.4).1 in
    first_step (entity_at m) (λ p. shared p.1.now) c.loop-uid.yielded (c.in-Some._uid, c.in-Some.node)
    (option_copied c.loop-uid.least) (option_copied c.min_faulty-least.result)
    (at_own_uid m c.requires c.in-Some._uid.now c.in-Some.node.now found)
    (subst (λ e. TakesFaulty e (option_copied c.loop-uid.least) (option_copied c.min_faulty-least.result))
    c.deref.ensures c.min_faulty-least.ensures)
    c.loop-uid.invariant

pub returns : goal.returns
returns g c =
    let m = c.args.entities.now in
    let gives = c.into_iter-uid-iterator.ensures.into_iter_gives in
    let whole =
    (iter_end deref_pair m.entries c.loop-uid.yielded c.into_iter-uid-iterator.result c.loop-uid._uid-iterator
    c.next.new.self c.next.result gives.0 c.loop-uid.yielded_by c.in-None.is c.next.ensures.steps).0 in
    first_of_all m c.requires c.loop-uid.yielded whole (option_copied c.loop-uid.least) c.loop-uid.invariant
