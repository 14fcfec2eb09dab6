use Rattle.std.proofs.Common.{◌∙◌, ◌&&◌, ◌||◌, ap, map, refl, subst, sym}
use Rattle.std.specs.List.{AllByRecursion, list_any}
use Rattle.std.specs.Map.Iter.{deref}
use Rattle.std.specs.Set.{is_member}
use Rattle.std.proofs.lemmas.Map.Iter.{iter_end}
use Rattle.cedar_ids.specs.UidOf.{same_uid}
use Rattle.cedar_ids.specs.laws.UidOfLaws.{same_uid_decides}
use Rattle.cedar_ids.specs.declared.entity.EntityUID.{EntityUID}
use Rattle.cedar_entity_maps.specs.Modes.{is_ancestor_in}
use Rattle.cedar_entity_maps.specs.laws.EntityMap.{entity_at, held_map}
use Rattle.cedar_entity_maps.specs.laws.StaleUids.{IsLossOf, is_stripped, loses}
use Rattle.cedar_entity_maps.specs.laws.Seen.{stored}
use Rattle.cedar_entity_maps.specs.laws.Lists.{member_next}
use Rattle.cedar_entity_maps.specs.laws.StaleUidLaws.{stripped_touched}
use Rattle.cedar_entity_maps.proofs.AffectedLists.{key_case}
use Rattle.cedar_entity_maps.proofs.affected.collect_stale_of.Goals as goal

pub loop-key-preserved : goal.loop-key-preserved
loop-key-preserved g c =
    let m = c.args.entities.now in
    let A = c.args.uids.now.keys in
    let key = c.in-Some.key.now in
    let F = λ (x : EntityUID). is_stripped A x (is_ancestor_in (entity_at m x)) in
    let old = c.loop-key.stale.items in
    record {
      who = λ q.
          c.in_ok-push_stale_at.ensures.who q
          ∙ ap (λ us. loses old q || (same_uid key q && is_stripped us key (is_ancestor_in (entity_at m key))))
          c.in_ok-sought.ensures
          ∙ ap (λ b. b || (same_uid key q && F key)) (c.loop-key.invariant.who q)
          ∙ key_case (is_member same_uid (map (λ x. x.now) c.loop-key.yielded) q) (F q) (same_uid key q) (F key)
          (λ t. ap F ((same_uid_decides key q).0 t))
          ∙ ap (λ b. b && F q) (sym (member_next c.loop-key.yielded c.in-Some.key q));
      lost =
          subst (λ us. AllByRecursion (IsLossOf (entity_at m) us) old
          → AllByRecursion (IsLossOf (entity_at m) us) c.push_stale_at.new.stale.items) c.in_ok-sought.ensures
          c.in_ok-push_stale_at.ensures.lost c.loop-key.invariant.lost;
    }

pub returns-clause-who : goal.returns-clause-who
returns-clause-who g c q =
    let m = c.args.entities.now in
    let A = c.args.uids.now.keys in
    let gives = c.into_iter-key-iterator.ensures.into_iter_gives in
    let whole =
    (iter_end deref c.args.affected.now.keys c.loop-key.yielded c.into_iter-key-iterator.result
    c.loop-key.key-iterator c.next.new.self c.next.result gives.0 c.loop-key.yielded_by c.in-None.is
    c.next.ensures.steps).0 in
    c.loop-key.invariant.who q
    ∙ ap (λ l. is_member same_uid l q && is_stripped A q (is_ancestor_in (entity_at m q))) whole
    ∙ ap (λ b. b && is_stripped A q (is_ancestor_in (entity_at m q))) (c.requires.affected q)
    ∙ ap (λ f. (is_member same_uid A q || list_any (is_ancestor_in (f q)) A)
    && is_stripped A q (is_ancestor_in (entity_at m q))) (sym (stored m (held_map m) refl))
    ∙ stripped_touched (is_member same_uid A q) (list_any (is_ancestor_in (entity_at m q)) A)
