use Rattle.std.proofs.Common.{◌<◌, ◌≡◌, ◌++◌, ◌∷◌, [], ap, sym, ◌∙◌, length, take, arith, filter, not}
use Rattle.std.proofs.lemmas.List.{map_more}
use Rattle.std.specs.FinMap as finmap
use Rattle.cedar_ids.specs.declared.entity.EntityUID.{EntityUID}
use Rattle.cedar_entity.specs.View.{EntityView}
use Rattle.cedar_entity_maps.specs.Affected.{inserted_in}
use Rattle.cedar_entity_maps.specs.Plain.{entities_in}
use Rattle.cedar_entity_diff.proofs.Pushing.{inserted_push}
use Rattle.cedar_entity_diff.proofs.parts.inserted_uids.Goals as goal

pub loop-entity-preserved : goal.loop-entity-preserved
loop-entity-preserved g c =
    let D = c.args.store.now.entities in
    let k = c.loop-entity.entity-index in
    let list = c.args.list.now in
    let one = c.entity-item.result in
    let within : k < length list = omega arith in
    let same : c.deref.result.now ≡ one.value = c.deref.ensures in
    let absent = λ (u : EntityUID). not (finmap.contains_key D u) in
    let more = map_more (λ r. r.value) list k one within
    ∙ ap (λ r. entities_in (take k list) ++ r.value ∷ []) (sym c.entity-item.is) in
    c.in_ok-push_inserted.ensures
    ∙ ap (λ us. us ++ filter absent (c.deref.result.now.uid ∷ [])) c.loop-entity.invariant
    ∙ ap (λ (e : EntityView). inserted_in D (entities_in (take k list)) ++ filter absent (e.uid ∷ [])) same
    ∙ sym (ap (inserted_in D) more ∙ inserted_push D (entities_in (take k list)) one.value)
