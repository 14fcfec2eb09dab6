use Rattle.std.proofs.Common.{sym, ap, ◌∙◌}
use Rattle.cedar_scope.specs.ScopeReads.{has_slot}
use Rattle.cedar_terms.specs.declared.slot.SlotId.TheVariants.{Resource}
use Rattle.cedar_binding.specs.Views.{env_of}
use Rattle.cedar_policy.specs.laws.PolicySlots.{resource_unbound}
use Rattle.cedar_policy.proofs.policy.Policy.resource_constraint.Goals as goal

pub returns-in-None-clause-no_slot : goal.returns-in-None-clause-no_slot
returns-in-None-clause-no_slot c =
    ap has_slot (c.in_ok-constraint.ensures.cases ∙ c.resource_constraint.ensures
    ∙ ap (λ t. t.resource) c.deref-2.ensures ∙ ap (λ p. p.template.value.resource) c.deref.ensures)
    ∙ resource_unbound
    (record {
      template = c.self.inside.parts.value.template.value;
      link = c.self.inside.parts.value.link;
      env = env_of c.self.inside.parts.value.values;
    }) c.self.invariant.total.exactly
    (ap (λ p. env_of p.values Resource) (sym c.deref-3.ensures) ∙ sym c.in-None.ensures)
