use Rattle.std.proofs.Common.{◌≡◌, ◌<◌, ◌-◌, arith, get_or, ◌∙◌, length, []}
use Rattle.std.proofs.lemmas.Grind.{get_or_default_zero}
use Rattle.cedar_components.specs.laws.Arcs.{IsArc}
use Rattle.cedar_components.proofs.ComponentSteps.{components_from_all, lowered}
use Rattle.cedar_components.proofs.components.make_components.Goals as goal
use Rattle.cedar_components.proofs.components.make_components.Goals.{then-index-eq0+in_ok-gather, else-index-eq0}

pub returns : goal.returns
returns c =
    let g = c.args.graph.now in
    let i = c.loop-b.invariant in
    let done : c.loop-b.b ≡ 0 = omega arith in
    components_from_all (IsArc g.arcs) g.numbers g.order.now c.loop-b.s.component.items (rw done at i.components)
    c.requires.order

pub loop-b-preserved : goal.loop-b-preserved
loop-b-preserved c =
    let g = c.args.graph.now in
    let i = c.loop-b.invariant in
    let s = c.loop-b.s in
    let b = c.loop-b.b in
    let y = c.index.result.now in
    let order = g.order.now in
    let component = s.component.items in
    let x = get_or order (b - 1) 0 in
    let some : 0 < b = omega arith in
    let inside = i.searched.order.inside (b - 1) (omega (arith, i.in_order)) in
    let within : x < length component = omega (arith, i.components.component_len, inside) in
    let read : y ≡ get_or component x 0 = c.index.ensures ∙ get_or_default_zero component x y within in
    elim c.if-index-eq0.branch [
      | then-index-eq0+in_ok-gather w ↦ rw w.s-is w.in_ok-gather.ensures
      | else-index-eq0 w ↦
          let has : 0 < get_or component x 0 = omega (arith, read, w.if-index-eq0.false) in
          rw w.s-is (record {
            searched = i.searched;
            in_order = omega (arith, i.in_order);
            empty = i.empty;
            components = lowered (IsArc g.arcs) g.numbers order b component [] 0 i.components (omega arith) some has;
          })
    ]
