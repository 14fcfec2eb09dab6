use Rattle.std.proofs.Common.{◌<◌, ◌≡◌, ◌++◌, ◌∷◌, [], ap, sym, subst, ◌∙◌, length, take, arith}
use Rattle.std.proofs.lemmas.List.{map_more}
use Rattle.cedar_entity.specs.View.{EntityView}
use Rattle.cedar_entity_maps.specs.Plain.{entities_in}
use Rattle.cedar_dry_run.specs.laws.Requested.{AreAsked}
use Rattle.cedar_dry_run.proofs.Asking.{asked_push}
use Rattle.cedar_dry_run.proofs.requested.uids_and_parents.Goals as goal

pub loop-entity-preserved : goal.loop-entity-preserved
loop-entity-preserved c =
    let k = c.loop-entity.entity-index in
    let list = c.args.list.now in
    let one = c.entity-item.result in
    let within : k < length list = omega arith in
    let same : c.deref.result.now ≡ one.value = c.deref.ensures in
    let more = map_more (λ r. r.value) list k one within
    ∙ ap (λ r. entities_in (take k list) ++ r.value ∷ []) (sym c.entity-item.is) in
    subst (AreAsked c.push_uid_and_parents.new.uids.items) (ap (λ (e : EntityView). entities_in (take k list) ++ e ∷ []) same ∙ sym more)
    (asked_push c.loop-entity.uids.items c.push_uid_and_parents.new.uids.items c.deref.result.now c.in_ok-push_uid_and_parents.ensures
    (entities_in (take k list)) c.loop-entity.invariant)
