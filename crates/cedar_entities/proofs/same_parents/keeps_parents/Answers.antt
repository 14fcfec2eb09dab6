use Rattle.std.proofs.Common.{◌≡◌, ◌∙◌, Some, ap, subst, sym}
use Rattle.std.specs.HashMap.{get}
use Rattle.std.specs.Option.{option_copied, option_map}
use Rattle.cedar_ids.specs.UidOf.{same_uid}
use Rattle.cedar_uid_sets.specs.laws.Sets.{same_uids_decides}
use Rattle.cedar_entity.specs.View.{EntityView}
use Rattle.cedar_entity_maps.specs.Plain.{HasNoIndirect}
use Rattle.cedar_entity_maps.specs.laws.EntityMap.{entity_at, shared}
use Rattle.cedar_entities.proofs.InPlace.{keeps}
use Rattle.cedar_entities.proofs.same_parents.keeps_parents.Goals as goal

pub returns-then-has_same_parents : goal.returns-then-has_same_parents
returns-then-has_same_parents g c bare =
    let m = c.args.entities.now in
    let key = c.incoming.inside.uid in
    let e = c.args.incoming.now in
    let o = c.deref-in-Some.result.now in
    let found : get same_uid m key ≡ Some c.in-Some.node.now = sym c.get.ensures.value ∙ ap option_copied c.in-Some.is in
    let is : entity_at m key ≡ Some o = ap (option_map shared) found ∙ ap Some (sym c.deref-in-Some.ensures) in
    let parents : c.deref.result.now.parents ≡ o.parents = (same_uids_decides c.deref.result.now.parents o.parents).0
    (sym c.has_same_parents.ensures ∙ c.if-has_same_parents.true) in
    keeps m e c.incoming.inside.entity.value o key c.incoming.invariant c.incoming.view_is is
    (ap (λ (v : EntityView). v.parents) (sym (c.deref.ensures ∙ c.incoming.view_is)) ∙ parents)
    (subst HasNoIndirect (c.deref-then-has_same_parents.ensures ∙ c.incoming.view_is) (c.has_no_indirect.ensures bare))
