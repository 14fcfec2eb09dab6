use Rattle.std.proofs.Common.{◌∙◌, ◌&&◌, ◌||◌, ap, sym, map}
use Rattle.std.specs.Set.{is_member}
use Rattle.std.proofs.lemmas.Iterator.Consumers.{YieldsList-from_first, YieldsList-end}
use Rattle.cedar_ids.specs.UidOf.{same_uid}
use Rattle.cedar_ids.specs.laws.UidOfLaws.{same_uid_decides}
use Rattle.cedar_entity.specs.laws.Views.{members_of_both}
use Rattle.cedar_entity_maps.specs.laws.Lists.{member_next}
use Rattle.cedar_entity_maps.specs.laws.StaleUidLaws.{and_both}
use Rattle.cedar_entity_maps.proofs.AffectedLists.{key_case}
use Rattle.cedar_entity_maps.proofs.uid_lookup.hits_by_ancestor.Goals as goal

pub loop-uid-preserved : goal.loop-uid-preserved
loop-uid-preserved g c q =
    let h = is_member same_uid c.args.uids.now.keys in
    let u = c.in-Some.uid.now in
    let before = is_member same_uid (map (λ x. x.now) c.loop-uid.yielded) q in
    c.in_ok-push_if.ensures q
    ∙ ap (λ b. b || (same_uid u q && c.contains.result)) (c.loop-uid.invariant q)
    ∙ ap (λ b. (before && h q) || (same_uid u q && b)) c.contains.ensures
    ∙ key_case before (h q) (same_uid u q) (h u) (λ t. ap h ((same_uid_decides u q).0 t))
    ∙ ap (λ b. b && h q) (sym (member_next c.loop-uid.yielded c.in-Some.uid q))

pub returns : goal.returns
returns g c q =
    let us = c.shared_ancestors-uid-items.result in
    let keys = c.args.uids.now.keys in
    let whole =
    (YieldsList-end (YieldsList-from_first (λ x. x.now)
    (λ l. l) {s = c.into_iter-uid-iterator.result} us c.into_iter-uid-iterator.ensures.into_iter_gives)
    c.loop-uid.yielded c.loop-uid.uid-iterator c.loop-uid.yielded_by c.next.result c.next.new.self c.in-None.is
    c.next.ensures.steps).0 in
    c.loop-uid.invariant q ∙ ap (λ l. is_member same_uid l q && is_member same_uid keys q) whole
    ∙ and_both (is_member same_uid us q) (is_member same_uid keys q)
    ∙ ap (λ b. is_member same_uid keys q && b) (members_of_both c.shared_ancestors-uid-items.ensures q)
