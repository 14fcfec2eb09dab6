use Rattle.std.proofs.Common.{◌<◌, ◌++◌, ◌∷◌, [], ap, sym, ◌∙◌, length, take, arith, filter}
use Rattle.std.proofs.lemmas.List.{take_more}
use Rattle.std.specs.FinMap as finmap
use Rattle.cedar_ids.specs.declared.entity.EntityUID.{EntityUID}
use Rattle.cedar_entity_maps.specs.Affected.{removed_from}
use Rattle.cedar_entity_diff.proofs.Pushing.{filter_push}
use Rattle.cedar_entity_diff.proofs.parts.removed_uids.Goals as goal

pub loop-uid-preserved : goal.loop-uid-preserved
loop-uid-preserved g c =
    let D = c.args.store.now.entities in
    let k = c.loop-uid.uid-index in
    let us = c.args.list.now in
    let u : EntityUID = c.uid-item.result in
    let within : k < length us = omega arith in
    let stored = finmap.contains_key D in
    c.in_ok-push_removed.ensures
    ∙ ap (λ l. l ++ filter stored (u ∷ [])) c.loop-uid.invariant
    ∙ sym (ap (removed_from D) (take_more us k u within ∙ ap (λ x. take k us ++ x ∷ []) (sym c.uid-item.is))
    ∙ filter_push stored (take k us) u)
