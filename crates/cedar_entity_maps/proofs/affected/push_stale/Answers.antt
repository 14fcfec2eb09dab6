use Rattle.std.proofs.Common.{◌∙◌, ◌&&◌, ap, sym, subst}
use Rattle.std.specs.List.{AllByRecursion, list_any}
use Rattle.cedar_ids.specs.UidOf.{same_uid}
use Rattle.cedar_entity.specs.View.{has_ancestor}
use Rattle.cedar_entity_maps.specs.Modes.{is_ancestor_in}
use Rattle.cedar_entity_maps.specs.laws.EntityMap.{entity_at}
use Rattle.cedar_entity_maps.specs.laws.Lists.{all_push}
use Rattle.cedar_entity_maps.specs.laws.StaleUids.{IsLossOf, is_stripped, loses, takes}
use Rattle.cedar_entity_maps.proofs.AffectedLists.{listed_loss, unlisted_loss}
use Rattle.cedar_entity_maps.proofs.affected.push_stale.Goals as goal

pub returns-then-not-is_hit-clause-who : goal.returns-then-not-is_hit-clause-who
returns-then-not-is_hit-clause-who g c q =
    unlisted_loss (loses c.args.stale.now.items q) (same_uid c.args.key.now q)
    (is_stripped c.args.uids.now c.args.key.now (has_ancestor c.args.entity.now)) (sym c.is_hit.ensures
    ∙ c.if-not-is_hit.true)

pub returns-clause-who : goal.returns-clause-who
returns-clause-who g c q =
    ap (λ l. loses l q) c.in_ok-push.ensures.items
    ∙ listed_loss c.args.stale.now.items c.in_ok-stale_ancestors_of.field-0 c.args.key.now q
    (is_stripped c.args.uids.now c.args.key.now (has_ancestor c.args.entity.now))
    c.in_ok-stale_ancestors_of.ensures.uid (sym c.is_hit.ensures ∙ c.if-not-is_hit.false)

pub returns-clause-lost : goal.returns-clause-lost
returns-clause-lost g c is all =
    let f = entity_at c.args.entities.now in
    let keys = c.args.uids.now in
    subst (AllByRecursion (IsLossOf f keys)) (sym c.in_ok-push.ensures.items)
    (all_push (IsLossOf f keys) c.args.stale.now.items c.in_ok-stale_ancestors_of.field-0 all (λ w.
    c.in_ok-stale_ancestors_of.ensures.lost w ∙ ap (λ o. list_any (λ u. is_ancestor_in o u && takes f u w) keys)
    (sym (ap f c.in_ok-stale_ancestors_of.ensures.uid ∙ is))))
