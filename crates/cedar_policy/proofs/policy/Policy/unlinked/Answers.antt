use Rattle.std.proofs.Common.{None, sym, subst}
use Rattle.cedar_body.specs.Bodies.{body_slots}
use Rattle.cedar_binding.specs.laws.NoBindings.{fits_nothing}
use Rattle.cedar_policy.specs.Policies.{IsPolicy}
use Rattle.cedar_policy.proofs.policy.Policy.unlinked.Goals as goal

pub of-requires : goal.of-requires
of-requires c =
    subst (λ e. IsPolicy (record { template = c.args.template.value; link = None; env = e }))
    (sym c.no_bindings.ensures)
    (record { total = fits_nothing (body_slots c.args.template.value) c.requires; unlinked = λ _. c.requires })
