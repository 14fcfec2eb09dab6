use Rattle.std.proofs.Common.{subst}
use Rattle.cedar_components.specs.laws.Components.{NoneLeadsUp}
use Rattle.cedar_components.proofs.OneMember.{single_are_components}
use Rattle.cedar_components.proofs.single.single_components.Goals as goal

pub returns-then-none_leads_up : goal.returns-then-none_leads_up
returns-then-none_leads_up c =
    let from = c.args.from.now in
    let to = c.args.to.now in
    single_are_components c.args.n from to c.args.order.now c.in_ok-component.component.items c.in_ok-component.ensures
    (subst (NoneLeadsUp from to) c.deref.ensures.value (c.none_leads_up.ensures c.if-none_leads_up.true))
