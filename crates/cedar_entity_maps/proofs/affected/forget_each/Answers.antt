use Rattle.std.proofs.Common.{◌∙◌, ◌&&◌, ap, cond, not, refl, sym}
use Rattle.std.proofs.lemmas.Result.{on_ok_weaker}
use Rattle.std.specs.FinSet as set
use Rattle.std.specs.HashSet.{contains}
use Rattle.std.specs.Option.{option_map}
use Rattle.cedar_ids.specs.UidOf.{same_uid}
use Rattle.cedar_entity_maps.specs.laws.Edits.{bared, stripped}
use Rattle.cedar_entity_maps.specs.laws.EntityMap.{entity_at}
use Rattle.cedar_entity_maps.specs.laws.StaleUids.{loses, loses_uid}
use Rattle.cedar_entity_maps.specs.laws.Keyed.{changed_match}
use Rattle.cedar_entity_maps.proofs.AffectedLists.{forgot}
use Rattle.cedar_entity_maps.proofs.affected.forget_each.Goals as goal

pub returns-then-not-recompute_all-clause-ok : goal.returns-then-not-recompute_all-clause-ok
returns-then-not-recompute_all-clause-ok g c q =
    ap (λ b. cond (b && (contains same_uid c.args.affected.now q && not (contains same_uid c.args.uids.now q)))
    (option_map bared (entity_at c.args.entities.now q)) (entity_at c.args.entities.now q)) (sym c.if-not-recompute_all.true)

pub returns-clause-ok : goal.returns-clause-ok
returns-clause-ok g c =
    let R = c.in_ok-stale.stale.items in
    on_ok_weaker c.strip_each.result (λ is q. is q
    ∙ forgot R c.in_ok-stale.ensures.lost c.new-none.result c.new-none.ensures q
    (c.args.recompute_all && (contains same_uid c.args.affected.now q && not (contains same_uid c.args.uids.now q)))
    (c.in_ok-stale.ensures.who q
    ∙ ap (λ b. b && (contains same_uid c.args.affected.now q && not (contains same_uid c.args.uids.now q)))
    (sym c.if-not-recompute_all.false)) (entity_at c.args.entities.now q)) c.strip_each.ensures.ok

pub returns-clause-keys : goal.returns-clause-keys
returns-clause-keys g c =
    let R = c.in_ok-stale.stale.items in
    on_ok_weaker c.strip_each.result (λ is. changed_match c.args.entities.now c.strip_each.new.entities
    (λ q. stripped (λ p. loses R q && set.contains c.new-none.result p) (loses_uid R q)) (λ q e. refl) is c.requires)
    c.strip_each.ensures.ok
