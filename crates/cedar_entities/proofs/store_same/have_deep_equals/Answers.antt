use Rattle.std.proofs.Common.{Some, map, sym, refl, subst, ◌∙◌}
use Rattle.std.proofs.lemmas.Bool.{false≢true}
use Rattle.std.specs.Option.{IfSome, option_map}
use Rattle.std.specs.Map.Iter.{deref_pair}
use Rattle.std.proofs.lemmas.Map.Iter.{iter_end, hash_map_turn}
use Rattle.std.proofs.lemmas.List.Elements.{All-map, recursion_from_All, All-same}
use Rattle.cedar_ids.specs.laws.UidOfLaws.{same_uid_equiv}
use Rattle.cedar_ids.specs.declared.entity.EntityUID.{EntityUID}
use Rattle.cedar_entity.specs.declared.node.SharedEntity.{SharedEntity}
use Rattle.cedar_entities.specs.Answers.{HasDeepEqual}
use Rattle.cedar_entity_maps.specs.laws.EntityMap.{entity_at, shared}
use Rattle.cedar_entities.proofs.Alike.{found_alike}
use Rattle.cedar_entities.proofs.store_same.have_deep_equals.Goals as goal

pub returns-then-not-has_deep_equal_at : goal.returns-then-not-has_deep_equal_at
returns-then-not-has_deep_equal_at g c =
    let m = c.args.one.now in
    let gives = c.into_iter-uid-iterator.ensures.into_iter_gives in
    let found =
    (hash_map_turn deref_pair c.loop-uid.yielded c.into_iter-uid-iterator.result c.loop-uid.uid-iterator
    c.next.new.self c.next.result (
      c.in-Some.uid,
      c.in-Some.node,
    ) c.loop-uid.yielded_by c.in-Some.is c.next.ensures.steps same_uid_equiv m gives.0
    gives.4).1 in (
      λ e. absurd (false≢true e),
      λ h. sym c.if-not-has_deep_equal_at.true
          ∙ c.has_deep_equal_at.ensures.1 (subst
          (λ x. HasDeepEqual (Some x) (entity_at c.args.other.now c.in-Some.uid.now)) (sym c.deref.ensures)
          (subst (λ o. IfSome (option_map shared o)
          (λ e. HasDeepEqual (Some e) (entity_at c.args.other.now c.in-Some.uid.now))) found (h c.in-Some.uid.now))),
    )

pub returns : goal.returns
returns g c =
    let m = c.args.one.now in
    let gives = c.into_iter-uid-iterator.ensures.into_iter_gives in
    let whole =
    (iter_end deref_pair m.entries c.loop-uid.yielded c.into_iter-uid-iterator.result c.loop-uid.uid-iterator
    c.next.new.self c.next.result gives.0 c.loop-uid.yielded_by c.in-None.is c.next.ensures.steps).0 in
    let P : (EntityUID × SharedEntity) → Type 0 = λ e. HasDeepEqual (Some (shared e.1)) (entity_at c.args.other.now e.0) in (
      λ _ q. found_alike (entity_at c.args.other.now) q m.entries
          (recursion_from_All P m.entries (All-same P m.entries (map deref_pair c.loop-uid.yielded) (sym whole)
          (All-map P deref_pair c.loop-uid.yielded c.loop-uid.invariant))),
      λ _. refl,
    )
