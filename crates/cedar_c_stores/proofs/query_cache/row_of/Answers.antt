use Rattle.std.proofs.Common.{◌∙◌, ◌∷◌, ◌++◌, [], List, ap, subst, sym, map}
use Rattle.std.specs.Set.{is_member}
use Rattle.std.proofs.lemmas.Iterator.Consumers.{YieldsList-from_first, YieldsList-end}
use Rattle.std.proofs.lemmas.List.{map-append}
use Rattle.cedar_entity.specs.View.{has_ancestor}
use Rattle.cedar_entity.specs.laws.Views.{members_of_both}
use Rattle.cedar_ids.specs.UidOf.{same_uid}
use Rattle.cedar_ids.specs.declared.entity.EntityUID.{EntityUID}
use Rattle.cedar_c_stores.specs.QueryCaches.{AreNumbersOf}
use Rattle.cedar_c_stores.proofs.Noting.{keeps_more, keeps_with, row_alike, row_kept, row_more}
use Rattle.cedar_c_stores.proofs.query_cache.row_of.Goals as goal

pub loop-uid-preserved : goal.loop-uid-preserved
loop-uid-preserved g c =
    let u = c.in_ok-clone.field-0 in
    let us = c.loop-uid.numbers in
    let vs = c.number_of_shared.new.self in
    let n = c.in_ok-number_of_shared.field-0 in
    let number = c.in_ok-number_of_shared.ensures.number in
    let kept = keeps_with us vs u c.in_ok-number_of_shared.ensures.uids number.1 in
    let done : List EntityUID = map (λ x. x.now) c.loop-uid.yielded in
    let row = c.loop-uid.row.items in
    let before = row_kept us kept.0 (is_member same_uid done) row c.loop-uid.invariant.1 in
    let after = row_more vs done row n u (subst (λ s. AreNumbersOf s (is_member same_uid done) row) (sym kept.1) before) number.0 in (
      keeps_more c.args.numbers.now us vs c.loop-uid.invariant.0 kept,
      subst (λ (l : List EntityUID). AreNumbersOf vs (is_member same_uid l) c.push.new.self.items)
          (ap (λ v. done ++ v ∷ []) c.in_ok-clone.ensures.cases
          ∙ sym (map-append (λ x. x.now) c.loop-uid.yielded (c.in-Some.uid ∷ [])))
          (subst (λ l. AreNumbersOf vs (is_member same_uid (done ++ u ∷ [])) l) (sym c.in_ok-push.ensures.items) after),
    )

pub returns-clause-row : goal.returns-clause-row
returns-clause-row g c =
    let us = c.shared_ancestors-uid-items.result in
    let whole =
    (YieldsList-end (YieldsList-from_first (λ x. x.now)
    (λ l. l) {s = c.into_iter-uid-iterator.result} us c.into_iter-uid-iterator.ensures.into_iter_gives)
    c.loop-uid.yielded c.loop-uid.uid-iterator c.loop-uid.yielded_by c.next.result c.next.new.self c.in-None.is
    c.next.ensures.steps).0 in
    row_alike c.loop-uid.numbers (is_member same_uid (map (λ x. x.now) c.loop-uid.yielded)) (has_ancestor c.args.entity.now)
    c.loop-uid.row.items
    (λ q. ap (λ l. is_member same_uid l q) whole ∙ members_of_both c.shared_ancestors-uid-items.ensures q) c.loop-uid.invariant.1
