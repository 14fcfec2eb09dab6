use Rattle.std.proofs.Common.{◌≡◌, ◌<◌, ◌≤◌, ◌+◌, inl, inr, ap, arith, get_or, sym, ◌∙◌}
use Rattle.std.proofs.lemmas.Bool.{cases_eq, cases_lt}
use Rattle.cedar_graph.proofs.close.mark_targets.Goals as goal
use Rattle.cedar_graph.proofs.close.mark_targets.Goals.{then-loop-k-test+else-from-k, else-loop-k-test}

pub returns-clause-one : goal.returns-clause-one
returns-clause-one c one =
    let i = c.loop-k.invariant in
    let from = c.args.from.now in
    let e = c.args.e in
    let k = c.loop-k.k in
    let x = c.args.x in
    let marks = c.loop-k.known.marks.items in
    let next : e + 1 ≡ k = omega (arith, c.saturating_sub-known.ensures) in
    record {
      only = λ y h mark.
          let arc = i.marked y h mark in
          let begun : e ≤ arc.0 = elim (cases_lt arc.0 e) [
            | inl lt ↦ absurd (omega (arith, c.requires.starts.before arc.0 lt, arc.2))
            | inr ge ↦ ge
          ] in
          let passed : arc.0 < k = elim c.loop-k-test.branch [
            | then-loop-k-test+else-from-k w ↦ elim (cases_lt arc.0 k) [
              | inl lt ↦ lt
              | inr ge ↦ elim (cases_eq arc.0 k) [
                | inl same ↦ absurd (w.if-from-k.false (sym (ap (λ j. get_or from j 0) same) ∙ arc.2))
                | inr ne ↦
                    let most = c.requires.ascending k arc.0 (omega arith) arc.1 in
                    let least = c.requires.starts.after k i.begun w.loop-k-test.true in
                    absurd (w.if-from-k.false (omega (arith, most, least, arc.2)))
              ]
            ]
            | else-loop-k-test w ↦ omega (arith, w.loop-k-test.false, arc.1)
          ] in
          sym arc.3 ∙ i.last arc.0 begun (omega arith);
      marked =
          let same = i.last e (omega arith) next in
          sym (ap (λ y. get_or marks y 0) same) ∙ i.targets e (omega arith) (omega arith);
    }
