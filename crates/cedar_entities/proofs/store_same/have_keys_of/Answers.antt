use Rattle.std.proofs.Common.{◌≡◌, true, is_some, map, sym, ap, refl, ◌∙◌}
use Rattle.std.proofs.lemmas.Bool.{false≢true}
use Rattle.std.specs.HashMap.{get}
use Rattle.std.specs.Map.Iter.{deref_pair}
use Rattle.std.proofs.lemmas.Map.Iter.{iter_end, hash_map_turn}
use Rattle.std.proofs.lemmas.List.Elements.{All-map, recursion_from_All, All-same}
use Rattle.cedar_ids.specs.UidOf.{same_uid}
use Rattle.cedar_ids.specs.laws.UidOfLaws.{same_uid_equiv}
use Rattle.cedar_ids.specs.declared.entity.EntityUID.{EntityUID}
use Rattle.cedar_entity.specs.declared.node.SharedEntity.{SharedEntity}
use Rattle.cedar_entities.proofs.Alike.{found_key}
use Rattle.cedar_entities.proofs.store_same.have_keys_of.Goals as goal

pub returns-then-not-contains_key : goal.returns-then-not-contains_key
returns-then-not-contains_key g c =
    let m = c.args.other.now in
    let gives = c.into_iter-uid-iterator.ensures.into_iter_gives in
    let found =
    (hash_map_turn deref_pair c.loop-uid.yielded c.into_iter-uid-iterator.result c.loop-uid.uid-iterator
    c.next.new.self c.next.result (
      c.in-Some.uid,
      c.in-Some._node,
    ) c.loop-uid.yielded_by c.in-Some.is c.next.ensures.steps same_uid_equiv m gives.0
    gives.4).1 in (
      λ e. absurd (false≢true e),
      λ h. sym c.if-not-contains_key.true ∙ c.contains_key.ensures ∙ h c.in-Some.uid.now (ap is_some found),
    )

pub returns : goal.returns
returns g c =
    let m = c.args.other.now in
    let gives = c.into_iter-uid-iterator.ensures.into_iter_gives in
    let whole =
    (iter_end deref_pair m.entries c.loop-uid.yielded c.into_iter-uid-iterator.result c.loop-uid.uid-iterator
    c.next.new.self c.next.result gives.0 c.loop-uid.yielded_by c.in-None.is c.next.ensures.steps).0 in
    let P : (EntityUID × SharedEntity) → Type 0 = λ e. is_some (get same_uid c.args.one.now e.0) ≡ true in (
      λ _ q. found_key (get same_uid c.args.one.now) q m.entries
          (recursion_from_All P m.entries (All-same P m.entries (map deref_pair c.loop-uid.yielded) (sym whole)
          (All-map P deref_pair c.loop-uid.yielded c.loop-uid.invariant))),
      λ _. refl,
    )
