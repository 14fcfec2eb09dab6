use Rattle.std.proofs.Common.{◌≡◌, ◌<◌, length, true, false, inl, inr, arith, subst, sym, ◌∙◌}
use Rattle.std.proofs.lemmas.Bool.{cases_eq, false≢true}
use Rattle.std.proofs.lemmas.Option.{get_or_from_slice_get}
use Rattle.std.specs.Prelude.{slice_get, Some}
use Rattle.cedar_graph.specs.laws.Readings.{IsArc}
use Rattle.cedar_components.specs.Reach.{HasPath}
use Rattle.cedar_graph.proofs.dag.first_loop.Goals as goal
use Rattle.cedar_graph.proofs.dag.first_loop.Goals.{else-led-x-via-then-led-x+else-reaches_itself, else-led-x-via-else-led-x}

pub loop-x-preserved : goal.loop-x-preserved
loop-x-preserved g c =
    let x = c.loop-x.x in
    let E = IsArc c.args.read.now.reading in
    let marks = c.args.led.now in
    record {
      none = λ w v h e goes. elim (cases_eq v x) [
        | inl same ↦ elim c.else-led-x.branch [
          | else-led-x-via-then-led-x+else-reaches_itself b ↦
              b.reaches_itself.ensures.none b.if-reaches_itself.false (subst (λ n. HasPath E n n) same goes)
          | else-led-x-via-else-led-x b ↦
              let to_in : e.0 < length c.args.read.now.reading.to.items = omega (arith, e.1, c.requires.same) in
              let at = subst (λ n. slice_get marks n ≡ Some true) (e.3 ∙ same) (c.requires.led.led e.0 to_in) in
              false≢true (sym b.if-led-x.false ∙ get_or_from_slice_get marks x true false at)
        ]
        | inr other ↦ c.loop-x.invariant.none w v (omega (arith, h, other)) e goes
      ];
    }

pub returns-clause-none : goal.returns-clause-none
returns-clause-none g c = λ _ w x h e goes.
    c.loop-x.invariant.none w x (omega (arith, h, c.loop-x-test.false)) e goes
