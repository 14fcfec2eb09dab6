use Rattle.std.proofs.Common.{◌∙◌, ◌||◌, ap}
use Rattle.std.specs.Set.{is_member}
use Rattle.cedar_ids.specs.UidOf.{same_uid}
use Rattle.cedar_entity.specs.View.{has_ancestor}
use Rattle.cedar_entity_maps.specs.laws.Lists.{member_push}
use Rattle.cedar_entity_maps.proofs.AffectedLists.{or_both}
use Rattle.cedar_entity_maps.proofs.affected.with_ancestors.Goals as goal

pub returns : goal.returns
returns c q =
    let all = c.in_ok-all.all.items in
    ap (λ l. is_member same_uid l q) c.in_ok-push.ensures.items
    ∙ member_push all c.in_ok-clone.field-0 q
    ∙ ap (λ k. is_member same_uid all q || same_uid k q) c.in_ok-clone.ensures.cases
    ∙ ap (λ b. b || same_uid c.args.uid.now q) (c.in_ok-all.ensures q)
    ∙ or_both (has_ancestor c.args.node.now.0.value q) (same_uid c.args.uid.now q)
