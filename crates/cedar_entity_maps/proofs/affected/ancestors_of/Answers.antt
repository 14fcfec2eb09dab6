use Rattle.std.proofs.Common.{◌∙◌, ◌||◌, ap, sym, map}
use Rattle.std.specs.Set.{is_member}
use Rattle.std.proofs.lemmas.Iterator.Consumers.{YieldsList-end}
use Rattle.std.proofs.lemmas.Iterator.Adapters.{YieldsList-from_vec}
use Rattle.cedar_ids.specs.UidOf.{same_uid}
use Rattle.cedar_entity_maps.specs.laws.Lists.{member_push, map_append_one, map_same}
use Rattle.cedar_entity_maps.proofs.affected.ancestors_of.Goals as goal

pub loop-ancestor-preserved : goal.loop-ancestor-preserved
loop-ancestor-preserved c q =
    let all = c.loop-ancestor.all.items in
    let done = map (λ x. x.now) c.loop-ancestor.yielded in
    ap (λ l. is_member same_uid l q) c.in_ok-push.ensures.items
    ∙ member_push all c.in_ok-clone.field-0 q
    ∙ ap (λ k. is_member same_uid all q || same_uid k q) c.in_ok-clone.ensures.cases
    ∙ ap (λ b. b || same_uid c.in-Some.ancestor.now q) (c.loop-ancestor.invariant q)
    ∙ sym (member_push done c.in-Some.ancestor.now q)
    ∙ ap (λ l. is_member same_uid l q)
    (sym (map_append_one (λ x. x.now) c.loop-ancestor.yielded c.in-Some.ancestor))

pub returns : goal.returns
returns c q =
    let gives = c.into_iter-ancestor-iterator.ensures.into_iter_gives in
    let whole = sym (map_same c.loop-ancestor.yielded)
    ∙ (YieldsList-end
    (YieldsList-from_vec {s = c.into_iter-ancestor-iterator.result} c.in_ok-ancestors.ancestors.items gives.0
    (gives.1 ∙ c.in_ok-ancestors.ancestors.ok.0)) c.loop-ancestor.yielded c.loop-ancestor.ancestor-iterator
    c.loop-ancestor.yielded_by c.next.result c.next.new.self c.in-None.is c.next.ensures.steps).0 in
    c.loop-ancestor.invariant q
    ∙ ap (λ l. is_member same_uid (map (λ x. x.now) l) q) whole
    ∙ c.in_ok-ancestors.ensures q
