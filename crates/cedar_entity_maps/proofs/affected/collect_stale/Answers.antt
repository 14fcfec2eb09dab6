use Rattle.std.proofs.Common.{◌∙◌, ◌&&◌, ◌||◌, ap, not, refl, subst, sym, IfOk}
use Rattle.std.proofs.lemmas.Result.{IfOk-weaker}
use Rattle.std.specs.HashSet.{contains}
use Rattle.std.specs.List.{list_any}
use Rattle.std.specs.Set.{is_member}
use Rattle.cedar_ids.specs.UidOf.{same_uid}
use Rattle.cedar_entity_maps.specs.Modes.{is_ancestor_in}
use Rattle.cedar_entity_maps.specs.laws.EntityMap.{entity_at, held_map}
use Rattle.cedar_entity_maps.specs.laws.StaleUids.{AreLossesOf}
use Rattle.cedar_entity_maps.specs.laws.Seen.{stored}
use Rattle.cedar_entity_maps.specs.laws.StaleUidLaws.{touched_alone}
use Rattle.cedar_entity_maps.proofs.affected.collect_stale.Goals as goal

pub returns-then-recompute_all-clause-who : goal.returns-then-recompute_all-clause-who
returns-then-recompute_all-clause-who g c =
    let m = c.args.entities.now in
    let A = c.args.uids.now.keys in
    IfOk-weaker c.collect_all_indirect.result _ _ (λ v h q. h q
    ∙ ap (λ b. b && not (contains same_uid c.args.uids.now q)) (c.requires.affected q)
    ∙ ap (λ f. (is_member same_uid A q || list_any (is_ancestor_in (f q)) A)
    && not (contains same_uid c.args.uids.now q)) (sym (stored m (held_map m) refl))
    ∙ touched_alone (is_member same_uid A q) (list_any (is_ancestor_in (entity_at m q)) A)) c.collect_all_indirect.ensures.who

pub returns-then-recompute_all-clause-lost : goal.returns-then-recompute_all-clause-lost
returns-then-recompute_all-clause-lost g c =
    subst (λ b. IfOk c.collect_all_indirect.result
    (λ v. AreLossesOf b (entity_at c.args.entities.now) c.args.uids.now.keys v.items)) (sym c.if-recompute_all.true)
    c.collect_all_indirect.ensures.lost

pub returns-clause-lost : goal.returns-clause-lost
returns-clause-lost g c =
    subst (λ b. IfOk c.collect_stale_of.result
    (λ v. AreLossesOf b (entity_at c.args.entities.now) c.args.uids.now.keys v.items)) (sym c.if-recompute_all.false)
    c.collect_stale_of.ensures.lost
