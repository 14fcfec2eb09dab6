use Rattle.std.proofs.Common.{◌∙◌, ◌||◌, Some, ap, cond, sym}
use Rattle.std.specs.HashMap.{get}
use Rattle.std.specs.Set.{is_member}
use Rattle.cedar_ids.specs.UidOf.{same_uid}
use Rattle.cedar_ids.specs.declared.entity.EntityUID.{EntityUID}
use Rattle.cedar_queries.proofs.UidLists.{member_push}
use Rattle.cedar_queries.proofs.UidVisits.{visit_again, visit_new}
use Rattle.cedar_queries.proofs.search.visit.Goals as goal

pub returns-then-contains_key-clause-visits : goal.returns-then-contains_key-clause-visits
returns-then-contains_key-clause-visits g c =
    visit_again (get same_uid c.args.reached.now) (is_member same_uid c.args.next.now.items) c.args.child.now
    c.args.parent.now (sym c.contains_key.ensures ∙ c.if-contains_key.true)

pub returns-clause-visits : goal.returns-clause-visits
returns-clause-visits g c =
    let before = get same_uid c.args.reached.now in
    let next = is_member same_uid c.args.next.now.items in
    visit_new before (get same_uid c.insert.new.self) next (is_member same_uid c.push.new.self.items) c.args.child.now
    c.args.parent.now (sym c.contains_key.ensures ∙ c.if-contains_key.false)
    (λ q. c.in_ok-insert.ensures.updates.0 q
    ∙ ap (λ (k : EntityUID). cond (same_uid k q) (Some c.in_ok-clone-3.field-0) (before q)) c.in_ok-clone-2.ensures.cases
    ∙ ap (λ (u : EntityUID). cond (same_uid c.args.parent.now q) (Some u) (before q)) c.in_ok-clone-3.ensures.cases)
    (λ q. ap (λ l. is_member same_uid l q) c.in_ok-push.ensures.items
    ∙ member_push c.args.next.now.items c.in_ok-clone.field-0 q
    ∙ ap (λ (u : EntityUID). next q || same_uid u q) c.in_ok-clone.ensures.cases)
