use Rattle.std.proofs.Common.{◌≡◌, ◌∙◌, ◌&&◌, ◌||◌, ap, sym, true}
use Rattle.std.specs.Set.{is_member}
use Rattle.cedar_ids.specs.UidOf.{same_uid}
use Rattle.cedar_ids.specs.declared.entity.EntityUID.{EntityUID}
use Rattle.cedar_entity.specs.View.{has_ancestor}
use Rattle.cedar_queries.proofs.UidLists.{and_on, member_push}
use Rattle.cedar_queries.proofs.members.push_descendant.Goals as goal

pub returns : goal.returns
returns c q =
    let before = is_member same_uid c.args.uids.now.items q in
    let same : c.in_ok-copy_of.field-0 ≡ c.args.entity.now.uid = c.in_ok-copy_of.ensures ∙ c.uid.ensures in
    let has : has_ancestor c.args.entity.now c.args.ancestor.now ≡ true =
    sym c.is_descendant_of_shared.ensures ∙ c.if-not-is_descendant_of_shared.false in
    ap (λ l. is_member same_uid l q) c.in_ok-push.ensures.items
    ∙ member_push c.args.uids.now.items c.in_ok-copy_of.field-0 q
    ∙ ap (λ (u : EntityUID). before || same_uid u q) same
    ∙ ap (λ b. before || b) (sym (and_on (same_uid c.args.entity.now.uid q)))
    ∙ ap (λ b. before || (same_uid c.args.entity.now.uid q && b)) (sym has)
