use Rattle.std.proofs.Common.{◌≡◌, ◌∙◌, ◌&&◌, ◌||◌, None, Some, ap, not, sym}
use Rattle.std.proofs.lemmas.Result.{on_ok_weaker}
use Rattle.std.specs.HashMap.{get}
use Rattle.std.specs.List.{list_any}
use Rattle.std.specs.Option.{option_copied, option_map}
use Rattle.std.specs.Set.{is_member}
use Rattle.cedar_ids.specs.UidOf.{same_uid}
use Rattle.cedar_entity_maps.specs.Modes.{is_ancestor_in}
use Rattle.cedar_entity_maps.specs.laws.EntityMap.{entity_at, shared}
use Rattle.cedar_entity_maps.specs.laws.StaleUids.{is_stripped, loses}
use Rattle.cedar_entity_maps.specs.laws.StaleUidLaws.{and_off}
use Rattle.cedar_entity_maps.proofs.AffectedLists.{none_any, unlisted_loss}
use Rattle.cedar_entity_maps.proofs.affected.push_stale_at.Goals as goal

pub returns-in-Some-clause-who : goal.returns-in-Some-clause-who
returns-in-Some-clause-who g c =
    let key = c.args.key.now in
    let found : get same_uid c.args.entities.now key ≡ Some c.in-Some.node.now = sym c.get.ensures.value
    ∙ ap option_copied c.in-Some.is in
    let is : entity_at c.args.entities.now key ≡ Some c.deref.result.now = ap (option_map shared) found
    ∙ ap Some (sym c.deref.ensures) in
    on_ok_weaker c.push_stale.result (λ h q. h q
    ∙ ap (λ o. loses c.args.stale.now.items q
    || (same_uid key q && is_stripped c.args.uids.now key (is_ancestor_in o))) (sym is)) c.push_stale.ensures.who

pub returns-in-Some-clause-lost : goal.returns-in-Some-clause-lost
returns-in-Some-clause-lost g c =
    let key = c.args.key.now in
    let found : get same_uid c.args.entities.now key ≡ Some c.in-Some.node.now = sym c.get.ensures.value
    ∙ ap option_copied c.in-Some.is in
    let is : entity_at c.args.entities.now key ≡ Some c.deref.result.now = ap (option_map shared) found
    ∙ ap Some (sym c.deref.ensures) in
    on_ok_weaker c.push_stale.result (λ h all. h is all) c.push_stale.ensures.lost

pub returns-in-None-clause-who : goal.returns-in-None-clause-who
returns-in-None-clause-who g c q =
    let key = c.args.key.now in
    let A = c.args.uids.now in
    let found : get same_uid c.args.entities.now key ≡ None = sym c.get.ensures.value ∙ ap option_copied c.in-None.is in
    unlisted_loss (loses c.args.stale.now.items q) (same_uid key q)
    (is_stripped A key (is_ancestor_in (entity_at c.args.entities.now key)))
    (ap (λ o. not (is_member same_uid A key) && list_any (is_ancestor_in (option_map shared o)) A) found
    ∙ ap (λ b. not (is_member same_uid A key) && b) (sym (none_any A)) ∙ and_off (not (is_member same_uid A key)))
