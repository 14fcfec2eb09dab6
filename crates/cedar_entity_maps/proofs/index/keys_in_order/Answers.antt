use Rattle.std.proofs.Common.{◌∙◌, ◌||◌, ap, is_some, map, sym}
use Rattle.std.specs.FinSet as set
use Rattle.std.specs.HashMap.{get}
use Rattle.std.specs.Map.{lookup}
use Rattle.std.specs.Map.Iter.{deref_pair}
use Rattle.std.specs.Set.{is_member}
use Rattle.std.proofs.lemmas.Map.Iter.{iter_end}
use Rattle.cedar_ids.specs.UidOf.{same_uid}
use Rattle.cedar_uid_sets.specs.UidSets.{UidValues}
use Rattle.cedar_uid_sets.specs.laws.Sets.{contains_listed}
use Rattle.cedar_entity_maps.specs.laws.Lists.{member_push, map_append_one}
use Rattle.cedar_entity_maps.specs.laws.Seen.{some_shared}
use Rattle.cedar_entity_maps.proofs.AffectedLists.{seen_key}
use Rattle.cedar_entity_maps.proofs.index.keys_in_order.Goals as goal

pub loop-key-preserved : goal.loop-key-preserved
loop-key-preserved g c q =
    ap (λ l. is_member same_uid l q) c.in_ok-push.ensures.items
    ∙ member_push c.loop-key.keys.items c.in_ok-clone.field-0 q
    ∙ ap (λ u. is_member same_uid c.loop-key.keys.items q || same_uid u q) c.in_ok-clone.ensures.cases
    ∙ ap (λ b. b || same_uid c.in-Some.key.now q) (c.loop-key.invariant q)
    ∙ sym (seen_key (map deref_pair c.loop-key.yielded) c.in-Some.key.now c.in-Some.field-0-1.now q)
    ∙ ap (λ l. is_some (lookup (same_uid q) l))
    (sym (map_append_one deref_pair c.loop-key.yielded (c.in-Some.key, c.in-Some.field-0-1)))

pub returns : goal.returns
returns g c q =
    let m = c.args.entities.now in
    let gives = c.into_iter-key-iterator.ensures.into_iter_gives in
    let whole =
    (iter_end deref_pair m.entries c.loop-key.yielded c.into_iter-key-iterator.result c.loop-key.key-iterator
    c.next.new.self c.next.result gives.0 c.loop-key.yielded_by c.in-None.is c.next.ensures.steps).0 in
    sym (contains_listed c.into_pointers.result.items q)
    ∙ ap (λ (s : UidValues). set.contains s q) (c.into_pointers.ensures.all ∙ c.in_ok-set.ensures)
    ∙ contains_listed c.loop-key.keys.items q
    ∙ c.loop-key.invariant q
    ∙ ap (λ l. is_some (lookup (same_uid q) l)) whole
    ∙ some_shared (get same_uid m q)
