use Rattle.std.proofs.Common.{ap, sym, ◌∙◌, cond, None}
use Rattle.std.specs.Set.{is_member}
use Rattle.std.proofs.lemmas.Iterator.Consumers.{YieldsList-end}
use Rattle.std.proofs.lemmas.Iterator.Adapters.{YieldsList-from_vec}
use Rattle.cedar_ids.specs.UidOf.{same_uid}
use Rattle.cedar_entity_maps.specs.laws.EntityMap.{entity_at}
use Rattle.cedar_entity_maps.specs.laws.Lists.{map_same}
use Rattle.cedar_entities.proofs.Editing.{out_push}
use Rattle.cedar_entity_maps.specs.laws.Keyed.{left_match}
use Rattle.cedar_entities.proofs.edits.remove_each.Goals as goal

pub loop-uid-preserved : goal.loop-uid-preserved
loop-uid-preserved g c q =
    out_push (entity_at c.args.entities.now q) (entity_at c.loop-uid.entities q)
    (entity_at c.remove_at.new.entities q) c.loop-uid.yielded c.in-Some.uid q (c.loop-uid.invariant q) (c.remove_at.ensures q)

pub returns-clause-left : goal.returns-clause-left
returns-clause-left g c q =
    let gives = c.into_iter-uid-iterator.ensures.into_iter_gives in
    let whole = sym (map_same c.loop-uid.yielded)
    ∙ (YieldsList-end
    (YieldsList-from_vec {s = c.into_iter-uid-iterator.result} c.args.removed.items gives.0 (gives.1
    ∙ c.args.removed.ok.0)) c.loop-uid.yielded c.loop-uid.uid-iterator c.loop-uid.yielded_by c.next.result
    c.next.new.self c.in-None.is c.next.ensures.steps).0 in
    c.loop-uid.invariant q ∙ ap (λ l. cond (is_member same_uid l q) None (entity_at c.args.entities.now q)) whole

pub returns-clause-keys : goal.returns-clause-keys
returns-clause-keys g c =
    left_match c.args.entities.now c.loop-uid.entities (is_member same_uid c.args.removed.items)
    (returns-clause-left g c) c.requires
