use Rattle.std.proofs.Common.{sym, ap, subst, ◌∙◌}
use Rattle.std.specs.Prelude.{not}
use Rattle.cedar_policy_maps.specs.PolicySets.{IsPolicySet}
use Rattle.cedar_policy_maps.specs.laws.MapLaws.{slotted_free}
use Rattle.cedar_policy_maps.proofs.policy_maps.PolicyMaps.is_template.Goals as goal

pub returns : goal.returns
returns g c =
    sym (ap not (slotted_free c.args.self.now c.args.id.now c.args.body.now
    (subst IsPolicySet c.self.view_is c.self.invariant.policy_set) c.requires (sym c.has_no_slots.ensures
    ∙ c.if-has_no_slots.false)))
