use Rattle.std.proofs.Common.{◌≡◌, ◌∙◌, ◌&&◌, ◌||◌, ap, sym, map, is_some, true, false}
use Rattle.std.specs.List.{list_any}
use Rattle.std.specs.Map.{lookup}
use Rattle.std.specs.Map.Iter.{deref_pair}
use Rattle.std.specs.HashMap.{get}
use Rattle.std.specs.Option.{option_map}
use Rattle.std.specs.Set.{is_member}
use Rattle.std.proofs.lemmas.Map.Iter.{iter_end, hash_map_turn}
use Rattle.cedar_ids.specs.UidOf.{same_uid}
use Rattle.cedar_ids.specs.laws.UidOfLaws.{same_uid_equiv}
use Rattle.cedar_entity.specs.View.{has_ancestor}
use Rattle.cedar_entity_maps.specs.Modes.{is_ancestor_in}
use Rattle.cedar_entity_maps.specs.laws.EntityMap.{entity_at, shared}
use Rattle.cedar_entity_maps.specs.laws.Lists.{member_push, map_append_one}
use Rattle.cedar_entity_maps.proofs.AffectedLists.{listed_key, unlisted_key, there_only_any}
use Rattle.cedar_entity_maps.proofs.affected.affected_by_any.Goals as goal

pub loop-key-preserved-in_ok-push : goal.loop-key-preserved-in_ok-push
loop-key-preserved-in_ok-push g c q =
    let m = c.args.entities.now in
    let u = c.args.uids.now in
    let gives = c.into_iter-key-iterator.ensures.into_iter_gives in
    let found =
    (hash_map_turn deref_pair c.loop-key.yielded c.into_iter-key-iterator.result c.loop-key.key-iterator
    c.next.new.self c.next.result (
      c.in-Some.key,
      c.in-Some.node,
    ) c.loop-key.yielded_by c.in-Some.is c.next.ensures.steps same_uid_equiv m gives.0
    gives.4).1 in
    let hits : list_any (is_ancestor_in (entity_at m c.in-Some.key.now)) u.keys ≡ true =
    ap (λ o. list_any (is_ancestor_in (option_map shared o)) u.keys) found
    ∙ sym (ap (λ e. list_any (has_ancestor e) u.keys) c.deref.ensures)
    ∙ ap (list_any (has_ancestor c.deref.result.now)) (sym c.in_ok-sought.ensures) ∙ sym c.has_any.ensures
    ∙ c.if-has_any.true in
    listed_key (λ x. list_any (is_ancestor_in (entity_at m x)) u.keys)
    (map deref_pair c.loop-key.yielded) c.in-Some.key.now c.in-Some.node.now q
    (is_member same_uid c.loop-key.copies.items q) (c.loop-key.invariant q)
    (is_member same_uid c.push.new.self.items q)
    (ap (λ l. is_member same_uid l q) c.in_ok-push.ensures.items
    ∙ member_push c.loop-key.copies.items c.in_ok-clone.field-0 q
    ∙ ap (λ k. is_member same_uid c.loop-key.copies.items q || same_uid k q) c.in_ok-clone.ensures.cases)
    hits ∙ ap (λ l. is_some (lookup (same_uid q) l) && list_any (is_ancestor_in (entity_at m q)) u.keys)
    (sym (map_append_one deref_pair c.loop-key.yielded (c.in-Some.key, c.in-Some.node)))

pub loop-key-preserved : goal.loop-key-preserved
loop-key-preserved g c q =
    let m = c.args.entities.now in
    let u = c.args.uids.now in
    let gives = c.into_iter-key-iterator.ensures.into_iter_gives in
    let found =
    (hash_map_turn deref_pair c.loop-key.yielded c.into_iter-key-iterator.result c.loop-key.key-iterator
    c.next.new.self c.next.result (
      c.in-Some.key,
      c.in-Some.node,
    ) c.loop-key.yielded_by c.in-Some.is c.next.ensures.steps same_uid_equiv m gives.0
    gives.4).1 in
    let out : list_any (is_ancestor_in (entity_at m c.in-Some.key.now)) u.keys ≡ false =
    ap (λ o. list_any (is_ancestor_in (option_map shared o)) u.keys) found
    ∙ sym (ap (λ e. list_any (has_ancestor e) u.keys) c.deref.ensures)
    ∙ ap (list_any (has_ancestor c.deref.result.now)) (sym c.in_ok-sought.ensures) ∙ sym c.has_any.ensures
    ∙ c.if-has_any.false in
    unlisted_key (λ x. list_any (is_ancestor_in (entity_at m x)) u.keys)
    (map deref_pair c.loop-key.yielded) c.in-Some.key.now c.in-Some.node.now q
    (is_member same_uid c.loop-key.copies.items q) (c.loop-key.invariant q)
    out ∙ ap (λ l. is_some (lookup (same_uid q) l) && list_any (is_ancestor_in (entity_at m q)) u.keys)
    (sym (map_append_one deref_pair c.loop-key.yielded (c.in-Some.key, c.in-Some.node)))

pub returns : goal.returns
returns g c q =
    let m = c.args.entities.now in
    let u = c.args.uids.now in
    let gives = c.into_iter-key-iterator.ensures.into_iter_gives in
    let whole =
    (iter_end deref_pair m.entries c.loop-key.yielded c.into_iter-key-iterator.result c.loop-key.key-iterator
    c.next.new.self c.next.result gives.0 c.loop-key.yielded_by c.in-None.is c.next.ensures.steps).0 in
    c.loop-key.invariant q
    ∙ ap (λ l. is_some (lookup (same_uid q) l) && list_any (is_ancestor_in (entity_at m q)) u.keys) whole
    ∙ there_only_any (get same_uid m q) u.keys
