use Rattle.std.proofs.Common.{ap, sym, ◌∙◌}
use Rattle.std.specs.Option.{option_or}
use Rattle.std.proofs.lemmas.Iterator.Consumers.{YieldsList-end}
use Rattle.std.proofs.lemmas.Iterator.Adapters.{YieldsList-from_vec}
use Rattle.cedar_entity_maps.specs.laws.Edits.{last_entity}
use Rattle.cedar_entity_maps.specs.laws.EntityMap.{entity_at}
use Rattle.cedar_entities.proofs.Versions.{over_push}
use Rattle.cedar_entity_maps.specs.laws.Lists.{map_same}
use Rattle.cedar_entities.proofs.edits.overwrite_all.Goals as goal

pub loop-entity-preserved : goal.loop-entity-preserved
loop-entity-preserved g c = record {
  keys = c.in_ok-overwrite.ensures.keys;
  holds =
      over_push (entity_at c.args.entities.now) (entity_at c.loop-entity.entities)
      (entity_at c.overwrite.new.entities) c.loop-entity.yielded c.in-Some.entity c.loop-entity.invariant.holds
      c.in_ok-overwrite.ensures.ok;
}

pub returns-clause-ok : goal.returns-clause-ok
returns-clause-ok g c q =
    let gives = c.into_iter-entity-iterator.ensures.into_iter_gives in
    let whole = sym (map_same c.loop-entity.yielded)
    ∙ (YieldsList-end
    (YieldsList-from_vec {s = c.into_iter-entity-iterator.result} c.args.list.items gives.0 (gives.1
    ∙ c.args.list.ok.0)) c.loop-entity.yielded c.loop-entity.entity-iterator c.loop-entity.yielded_by
    c.next.result c.next.new.self c.in-None.is c.next.ensures.steps).0 in
    c.loop-entity.invariant.holds q ∙ ap (λ l. option_or (last_entity l q) (entity_at c.args.entities.now q)) whole
