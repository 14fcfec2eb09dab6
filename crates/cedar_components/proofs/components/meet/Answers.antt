use Rattle.std.proofs.Common.{◌≡◌, ◌<◌, arith, get_or, length}
use Rattle.std.proofs.lemmas.Grind.{common_steps}
use Rattle.cedar_components.proofs.Gathering.{joins}
use Rattle.cedar_components.proofs.components.meet.Goals as goal

pub returns-clause-gathers : goal.returns-clause-gathers
returns-clause-gathers c =
    let s = c.args.s.now in
    let v = c.args.v in
    let r = c.requires in
    let within : v < length s.component.items = omega (arith, r.arc.within, r.state.components.component_len) in
    let unseen : get_or s.component.items v 0 ≡ 0 = grind (arith, common_steps) in
    joins c.args.graph.now c.args.b v s c.join.new.s c.in_ok-join.ensures within r.state.some c.args.i r.state unseen
    r.arc.in_queue r.arc.arc
