use Rattle.std.proofs.Common.{rules, arith, ◌≡◌, ◌+◌, ◌<◌, ℕ, List, get_or, length, subst}
use Rattle.cedar_components.specs.Reach.{HasArc}
use Rattle.cedar_components.specs.laws.Lists.{AreReached}
use Rattle.cedar_components.proofs.Rows.{reach_from}
use Rattle.cedar_components.proofs.reach.Goals as goal

pub returns-clause-reach : goal.returns-clause-reach
returns-clause-reach c =
    let n = c.args.count in
    let E = HasArc c.args.from.now c.args.to.now in
    let component = c.in_ok-component.component.items in
    let start = c.in_ok-start.field-0.start.items in
    let lists = c.in_ok-start.field-0.lists.items in
    let found = c.in_ok-component.ensures in
    let made = c.in_ok-start.ensures.lists in
    let count = c.len-last.result in
    let len : count ≡ length c.deref-3.result.now = search rules in
    reach_from E n count component start lists found.component_len
    (λ x h. omega (arith, (found.component_in x h).1, len)) made.lists
    (subst (λ v. AreReached E n v (count + 1) start lists) c.deref-5.ensures.value made.reached)

pub returns-clause-order : goal.returns-clause-order
returns-clause-order c = λ is q k m inside least lt within.
    let lists = c.in_ok-start.field-0.lists.items in
    let made = c.in_ok-start.ensures in
    let below : q < c.len-last.result + 1 = omega (arith, inside, made.lists.lists.start_len) in
    subst (λ (v : List ℕ). get_or v (get_or lists k 0) 0 < get_or v (get_or lists m 0) 0) c.deref-4.ensures.value
    (made.order is q below k m least lt within)
