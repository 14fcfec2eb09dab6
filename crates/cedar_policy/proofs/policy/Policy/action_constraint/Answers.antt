use Rattle.std.proofs.Common.{sym, ap, ◌∙◌}
use Rattle.cedar_action.specs.RuleReads.{rule_has_slot}
use Rattle.cedar_terms.specs.declared.slot.SlotId.TheVariants.{Action}
use Rattle.cedar_binding.specs.Views.{env_of}
use Rattle.cedar_policy.specs.laws.PolicySlots.{action_unbound}
use Rattle.cedar_policy.proofs.policy.Policy.action_constraint.Goals as goal

pub returns-in-None-clause-no_slot : goal.returns-in-None-clause-no_slot
returns-in-None-clause-no_slot c =
    ap rule_has_slot (c.in_ok-constraint.ensures.cases ∙ c.action_constraint.ensures
    ∙ ap (λ t. t.action) c.deref-2.ensures ∙ ap (λ p. p.template.value.action) c.deref.ensures)
    ∙ action_unbound
    (record {
      template = c.self.inside.parts.value.template.value;
      link = c.self.inside.parts.value.link;
      env = env_of c.self.inside.parts.value.values;
    }) c.self.invariant.total.exactly
    (ap (λ p. env_of p.values Action) (sym c.deref-3.ensures) ∙ sym c.in-None.ensures)
