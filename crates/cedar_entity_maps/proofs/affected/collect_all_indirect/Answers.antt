use Rattle.std.proofs.Common.{◌∙◌, ◌&&◌, ◌||◌, ap, map, not, sym}
use Rattle.std.proofs.lemmas.Map.Iter.{iter_end}
use Rattle.std.specs.HashSet.{contains}
use Rattle.std.specs.Map.Iter.{deref}
use Rattle.std.specs.Set.{is_member}
use Rattle.cedar_ids.specs.UidOf.{same_uid}
use Rattle.cedar_ids.specs.laws.UidOfLaws.{same_uid_decides}
use Rattle.cedar_ids.specs.declared.entity.EntityUID.{EntityUID}
use Rattle.cedar_entity_maps.specs.laws.Lists.{member_next}
use Rattle.cedar_entity_maps.proofs.AffectedLists.{key_case}
use Rattle.cedar_entity_maps.proofs.affected.collect_all_indirect.Goals as goal

pub loop-key-preserved : goal.loop-key-preserved
loop-key-preserved g c =
    let key = c.in-Some.key.now in
    let F = λ (x : EntityUID). not (contains same_uid c.args.uids.now x) in
    record {
      who = λ q.
          c.in_ok-push_all_indirect.ensures.who q
          ∙ ap (λ b. b || (same_uid key q && F key)) (c.loop-key.invariant.who q)
          ∙ key_case (is_member same_uid (map (λ x. x.now) c.loop-key.yielded) q) (F q) (same_uid key q) (F key)
          (λ t. ap F ((same_uid_decides key q).0 t))
          ∙ ap (λ b. b && F q) (sym (member_next c.loop-key.yielded c.in-Some.key q));
      lost = c.in_ok-push_all_indirect.ensures.lost c.loop-key.invariant.lost;
    }

pub returns-clause-who : goal.returns-clause-who
returns-clause-who g c q =
    let gives = c.into_iter-key-iterator.ensures.into_iter_gives in
    let whole =
    (iter_end deref c.args.affected.now.keys c.loop-key.yielded c.into_iter-key-iterator.result
    c.loop-key.key-iterator c.next.new.self c.next.result gives.0 c.loop-key.yielded_by c.in-None.is
    c.next.ensures.steps).0 in
    c.loop-key.invariant.who q
    ∙ ap (λ l. is_member same_uid l q && not (contains same_uid c.args.uids.now q)) whole
