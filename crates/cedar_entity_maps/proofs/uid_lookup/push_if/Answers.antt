use Rattle.std.proofs.Common.{◌∙◌, ◌&&◌, ◌||◌, ap, sym}
use Rattle.std.specs.Set.{is_member}
use Rattle.cedar_ids.specs.UidOf.{same_uid}
use Rattle.cedar_entity_maps.specs.laws.Lists.{member_push}
use Rattle.cedar_entity_maps.proofs.AffectedLists.{unlisted_loss}
use Rattle.cedar_entity_maps.specs.laws.StaleUidLaws.{and_on}
use Rattle.cedar_entity_maps.proofs.uid_lookup.push_if.Goals as goal

pub returns-then-not-is_hit : goal.returns-then-not-is_hit
returns-then-not-is_hit c q =
    unlisted_loss (is_member same_uid c.args.hits.now.items q)
    (same_uid c.args.uid.now q) c.args.is_hit c.if-not-is_hit.true

pub returns : goal.returns
returns c q =
    let old = is_member same_uid c.args.hits.now.items q in
    ap (λ l. is_member same_uid l q) c.in_ok-push.ensures.items
    ∙ member_push c.args.hits.now.items c.in_ok-clone.field-0 q
    ∙ ap (λ u. old || same_uid u q) c.in_ok-clone.ensures.cases
    ∙ ap (λ b. old || b)
    (sym (ap (λ b. same_uid c.args.uid.now q && b) c.if-not-is_hit.false ∙ and_on (same_uid c.args.uid.now q)))
