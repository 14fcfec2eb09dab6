use Rattle.std.proofs.Common.{Err, rules, ap, sym, ◌∙◌}
use Rattle.std.proofs.lemmas.Bool.{false≢true, not-true}
use Rattle.std.proofs.lemmas.Result.{err_from_is_err_and}
use Rattle.cedar_graph.proofs.Closing.{closes_in_part, closes_whole, loop_named}
use Rattle.cedar_graph.proofs.transitive_closure.compute_tc_counted.Goals as goal
use Rattle.cedar_graph.proofs.transitive_closure.compute_tc_counted.Goals.{then-not-enforce_dag-via-then-not-enforce_dag}
use Rattle.cedar_graph.proofs.transitive_closure.compute_tc_counted.Goals.{then-not-enforce_dag-via-else-not-enforce_dag+then-not-closed}

pub returns-in_err-closed-clause-closes : goal.returns-in_err-closed-clause-closes
returns-in_err-closed-clause-closes g c =
    let p = err_from_is_err_and c.from_residual.result c.from_residual.ensures.1 in
    closes_in_part g.K.PartialEq.eq g.V.TCNode.edges c.args.enforce_dag c.args.nodes.now c.close.new.nodes
    c.close.ensures.adds c.from_residual.result (p.1 ∙ ap Err p.2)

pub returns-then-not-enforce_dag-clause-closes : goal.returns-then-not-enforce_dag-clause-closes
returns-then-not-enforce_dag-clause-closes g c =
    let closed = c.in_ok-closed.ensures in
    closes_whole g.K.PartialEq.eq g.V.TCNode.edges c.args.enforce_dag c.args.nodes.now c.close.new.nodes closed.adds
    closed.ok _ (elim c.then-not-enforce_dag.branch [
      | then-not-enforce_dag-via-then-not-enforce_dag w ↦ λ asked. absurd (search rules)
      | then-not-enforce_dag-via-else-not-enforce_dag+then-not-closed w ↦ λ _ a p.
          false≢true (sym (closed.loops (not-true c.in_ok-closed.closed.has_loop w.if-not-closed.true) a)
          ∙ closed.ok a a p)
    ]) tt

pub returns-in_err-enforce_no_loop-clause-closes : goal.returns-in_err-enforce_no_loop-clause-closes
returns-in_err-enforce_no_loop-clause-closes g c =
    let eq = g.K.PartialEq.eq in
    let edges = g.V.TCNode.edges in
    let old = c.args.nodes.now in
    let new = c.close.new.nodes in
    let asked = c.args.enforce_dag in
    let closed = c.in_ok-closed.ensures in
    let p = err_from_is_err_and c.from_residual-in_err-enforce_no_loop.result
    c.from_residual-in_err-enforce_no_loop.ensures.1 in
    rw (p.1, p.2) (closes_whole eq edges asked old new closed.adds closed.ok (Err c.in_err-enforce_no_loop.field-0.0) tt
    (loop_named eq edges asked old new closed.adds (search rules) c.in_err-enforce_no_loop.field-0.0
    c.in_err-enforce_no_loop.ensures.err))

pub returns-clause-closes : goal.returns-clause-closes
returns-clause-closes g c =
    let closed = c.in_ok-closed.ensures in
    closes_whole g.K.PartialEq.eq g.V.TCNode.edges c.args.enforce_dag c.args.nodes.now c.close.new.nodes closed.adds
    closed.ok _
    (λ _ a p. false≢true (sym (c.in_ok-enforce_no_loop.ensures.ok a) ∙ closed.ok a a p)) tt
