use Rattle.std.proofs.Common.{ap, append_assoc, rules, sym, subst, [], ◌≡◌, ◌∙◌, ◌++◌, ◌∷◌}
use Rattle.cedar_entity.specs.View.{EntityView}
use Rattle.cedar_entity.specs.declared.err.EntitiesError.TheVariants.{Duplicate}
use Rattle.std.specs.List.{AllByRecursion}
use Rattle.std.specs.Option.{option_or}
use Rattle.std.proofs.lemmas.Iterator.Consumers.{YieldsList-end}
use Rattle.std.proofs.lemmas.Iterator.Adapters.{YieldsList-from_vec}
use Rattle.cedar_entity_maps.specs.laws.EntityMap.{entity_at}
use Rattle.cedar_entities.specs.Present.{first_entity, MatchesPresent}
use Rattle.cedar_entities.proofs.Versions.{or_none, agrees_now, held_push, weaker_refusal}
use Rattle.cedar_entity_maps.specs.laws.Lists.{map_same, all_push}
use Rattle.cedar_entities.proofs.entities.insert_each.Goals as goal

pub loop-entity-init : goal.loop-entity-init
loop-entity-init g c = record {
  keys = c.requires;
  agree = tt;
  holds = λ q. or_none _;
  place = sym c.into_iter-entity-iterator.ensures.into_iter_gives.0;
}

pub insert_if_new-requires : goal.insert_if_new-requires
insert_if_new-requires g c = c.loop-entity.invariant.keys

pub loop-entity-preserved : goal.loop-entity-preserved
loop-entity-preserved g c =
    let f = entity_at c.args.entities.now in
    let now = entity_at c.loop-entity.entities in
    let i = c.loop-entity.invariant in
    let done = c.loop-entity.yielded in
    let r = c.in-Some.entity in
    let place = i.place ∙ ap (λ l. done ++ l) c.in-Some.ensures.steps.0 in
    record {
      keys = c.insert_if_new.ensures.keys;
      agree = all_push (MatchesPresent f c.args.list.items) done r i.agree
          (agrees_now f now done r _ c.args.list.items place i.holds (c.in_ok-other.ensures.agrees c.in_default.is));
      holds = held_push f now (entity_at c.insert_if_new.new.entities) done r i.holds (c.in_ok-other.ensures.ok c.in_default.is);
      place = place ∙ sym (append_assoc done (r ∷ []) _);
    }

pub returns-in-Some-2-clause-err : goal.returns-in-Some-2-clause-err
returns-in-Some-2-clause-err g c =
    let i = c.loop-entity.invariant in
    let done = c.loop-entity.yielded in
    let r = c.in-Some.entity in
    let place = i.place ∙ ap (λ l. done ++ l) c.in-Some.ensures.steps.0 in
    let d = rw c.in-Some-2.is at c.in_ok-other.ensures.differs in
    let copy : c.in_ok-clone.field-0 ≡ c.uid.result.now = search rules in
    weaker_refusal (entity_at c.args.entities.now) (entity_at c.loop-entity.entities) done r _ c.args.list.items
    place i.holds i.agree (Duplicate c.in_ok-clone.field-0)
    (copy ∙ c.uid.ensures ∙ ap (λ (e : EntityView). e.uid) (c.deref.ensures ∙ d.0), d.1, d.2, d.3)

pub returns-clause-keys : goal.returns-clause-keys
returns-clause-keys g c = c.loop-entity.invariant.keys

pub returns-clause-agree : goal.returns-clause-agree
returns-clause-agree g c =
    let gives = c.into_iter-entity-iterator.ensures.into_iter_gives in
    let whole = sym (map_same c.loop-entity.yielded)
    ∙ (YieldsList-end
    (YieldsList-from_vec {s = c.into_iter-entity-iterator.result} c.args.list.items gives.0 (gives.1
    ∙ c.args.list.ok.0)) c.loop-entity.yielded c.loop-entity.entity-iterator c.loop-entity.yielded_by
    c.next.result c.next.new.self c.in-None.is c.next.ensures.steps).0 in
    subst (λ l. AllByRecursion (MatchesPresent (entity_at c.args.entities.now) c.args.list.items) l) whole
    c.loop-entity.invariant.agree

pub returns-clause-ok : goal.returns-clause-ok
returns-clause-ok g c q =
    let gives = c.into_iter-entity-iterator.ensures.into_iter_gives in
    let whole = sym (map_same c.loop-entity.yielded)
    ∙ (YieldsList-end
    (YieldsList-from_vec {s = c.into_iter-entity-iterator.result} c.args.list.items gives.0 (gives.1
    ∙ c.args.list.ok.0)) c.loop-entity.yielded c.loop-entity.entity-iterator c.loop-entity.yielded_by
    c.next.result c.next.new.self c.in-None.is c.next.ensures.steps).0 in
    c.loop-entity.invariant.holds q ∙ ap (λ l. option_or (entity_at c.args.entities.now q) (first_entity l q)) whole
