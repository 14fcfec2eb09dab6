use Rattle.std.proofs.Common.{sym, subst, ◌∙◌}
use Rattle.cedar_entity.specs.Listing.{Lists}
use Rattle.cedar_deep_copy_stores.proofs.SameEntity.{same_entity}
use Rattle.cedar_deep_copy_stores.proofs.entity.entity_of_shared.Goals as goal

pub returns : goal.returns
returns g c =
    let e = c.args.entity.now in
    let made = c.in_ok-copy.ensures in
    same_entity e c.in_ok-copy.copy c.add_parents.new.entity c.insert_indirect.new.entity c.in_ok-parents.parents.items
    c.in_ok-above.above.items c.requires
    (subst (Lists e.parents) (sym c.in_ok-parents.ensures) c.parents.ensures.lists)
    (subst (Lists e.indirect) (sym c.in_ok-above.ensures) c.indirect_ancestors.ensures.lists)
    (made.uid ∙ c.in_ok-uid.ensures ∙ c.in_ok-shared.ensures ∙ c.uid.ensures) made.attrs made.tags
    c.in_ok-add_parents.ensures c.in_ok-insert_indirect.ensures
