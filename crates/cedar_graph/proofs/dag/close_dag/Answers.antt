use Rattle.std.proofs.Common.{Err, ap, ◌∙◌}
use Rattle.std.proofs.lemmas.Result.{err_from_is_err_and}
use Rattle.cedar_graph.specs.laws.Readings.{IsArc}
use Rattle.cedar_graph.proofs.Closing.{closed_only, closed_has}
use Rattle.cedar_graph.proofs.Dags.{dag_in_part, dag_refused, dag_unwritten, dag_whole}
use Rattle.cedar_graph.proofs.Loops.{no_loop}
use Rattle.cedar_graph.proofs.dag.close_dag.Goals as goal

pub returns-in_err-reached-clause-closes : goal.returns-in_err-reached-clause-closes
returns-in_err-reached-clause-closes g c =
    let p = err_from_is_err_and c.from_residual-in_err-reached.result c.from_residual-in_err-reached.ensures.1 in
    dag_unwritten g.met.K.Eq.laws g.V.TCNode.edges g.met.V.TCNode.respects_eq c.args.nodes.now
    c.from_residual-in_err-reached.result (p.1 ∙ ap Err p.2)

pub returns-in_err-refuse_loop-clause-closes : goal.returns-in_err-refuse_loop-clause-closes
returns-in_err-refuse_loop-clause-closes g c =
    let p = err_from_is_err_and c.from_residual-in_err-refuse_loop.result
    c.from_residual-in_err-refuse_loop.ensures.1 in
    rw (p.1, p.2) (dag_refused g.met.K.Eq.laws g.V.TCNode.edges g.met.V.TCNode.respects_eq c.args.nodes.now
    c.in_ok-read.read c.in_ok-read.ensures.same c.in_err-refuse_loop.field-0.0 c.in_err-refuse_loop.ensures.err)

pub returns-in_err-write_rows-clause-closes : goal.returns-in_err-write_rows-clause-closes
returns-in_err-write_rows-clause-closes g c =
    let s = c.in_ok-read.read in
    let w = c.write_rows.ensures.writes in
    let p = err_from_is_err_and c.from_residual-in_err-write_rows.result
    c.from_residual-in_err-write_rows.ensures.1 in
    let only = closed_only g.met.K.Eq.laws g.V.TCNode.edges g.met.V.TCNode.respects_eq c.args.nodes.now
    c.write_rows.new.nodes s.reading.keys.keys (IsArc s.reading) s.fixed w.only c.in_ok-read.ensures.same in
    dag_in_part g.met.K.Eq.laws g.V.TCNode.edges g.met.V.TCNode.respects_eq c.args.nodes.now c.write_rows.new.nodes
    (record { stays = w.stays; only = only }) c.from_residual-in_err-write_rows.result (p.1 ∙ ap Err p.2)

pub returns-clause-closes : goal.returns-clause-closes
returns-clause-closes g c =
    let laws = g.met.K.Eq.laws in
    let edges = g.V.TCNode.edges in
    let alike = g.met.V.TCNode.respects_eq in
    let nodes = c.args.nodes.now in
    let new = c.write_rows.new.nodes in
    let s = c.in_ok-read.read in
    let f = c.in_ok-read.ensures in
    let w = c.in_ok-write_rows.ensures.writes in
    let none = c.in_ok-refuse_loop.ensures.ok in
    let keys = s.reading.keys.keys in
    let only = closed_only laws edges alike nodes new keys (IsArc s.reading) s.fixed w.only f.same in
    let has = closed_has laws edges alike nodes new keys (IsArc s.reading) s.fixed w.ok f.same f.all in
    let free = no_loop laws edges nodes new keys f.unique (IsArc s.reading) s.fixed f.same f.all only
    (λ u x _ h e goes. none u x h e goes) in
    dag_whole laws edges alike nodes new (record { stays = w.stays; only = only }) has free tt
