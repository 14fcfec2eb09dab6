use Rattle.std.proofs.Common.{sym, ap, ◌∙◌, subst}
use Rattle.cedar_body.specs.Bodies.{body_slots}
use Rattle.cedar_binding.specs.Bindings.{BindsExactly}
use Rattle.cedar_binding.specs.laws.NoBindings.{no_slot_fits}
use Rattle.cedar_policy.proofs.template.Template.try_as_policy.Goals as goal

pub unlinked-requires : goal.unlinked-requires
unlinked-requires c =
    let fits = rw c.in_ok-check_binding.was at c.check_binding.ensures in
    ap body_slots (sym c.deref.ensures)
    ∙ no_slot_fits (body_slots c.deref.result.now)
    (subst (BindsExactly (body_slots c.deref.result.now)) c.no_bindings-nothing.ensures fits.exactly)
