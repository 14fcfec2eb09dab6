use Rattle.std.proofs.Common.{ap, ◌∙◌}
use Rattle.cedar_policy.specs.laws.PolicySlots.{unconstrained_slots}
use Rattle.cedar_policy.proofs.policy.Policy.from_when_clause_annos.Goals as goal

pub unlinked-requires : goal.unlinked-requires
unlinked-requires c =
    let made = c.in_ok-template-2.ensures.ok ∙ c.in_ok-template.ensures in
    unconstrained_slots c.in_ok-template-2.template.value c.args.when.value
    (ap (λ b. b.principal) made ∙ c.any.ensures)
    (ap (λ b. b.action) made ∙ c.any-2.ensures)
    (ap (λ b. b.resource) made ∙ c.any-3.ensures)
    (ap (λ b. b.clause) made)
    c.requires
