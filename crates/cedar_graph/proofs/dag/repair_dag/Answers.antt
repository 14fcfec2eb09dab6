use Rattle.std.proofs.Common.{Err, ap, sym, take, ◌∙◌}
use Rattle.std.specs.Set.{is_member}
use Rattle.std.specs.HashSet.{contains}
use Rattle.std.proofs.lemmas.Bool.{false≢true}
use Rattle.std.proofs.lemmas.Result.{err_from_is_err_and}
use Rattle.cedar_graph.specs.Graph.{graph_of}
use Rattle.cedar_graph.specs.laws.Readings.{IsArc}
use Rattle.cedar_graph.proofs.Closing.{repaired_only, repaired_has}
use Rattle.cedar_graph.proofs.Dags.{none_at, repair_refused, repair_whole, repaired_in_part, repaired_unwritten}
use Rattle.cedar_graph.proofs.Keyed.{member_alike}
use Rattle.cedar_graph.proofs.Reaches.{and_from, and_parts}
use Rattle.cedar_graph.proofs.dag.repair_dag.Goals as goal

pub returns-in_err-reached-clause-repairs : goal.returns-in_err-reached-clause-repairs
returns-in_err-reached-clause-repairs g c =
    let p = err_from_is_err_and c.from_residual-in_err-reached.result c.from_residual-in_err-reached.ensures.1 in
    repaired_unwritten g.met.K.Eq.laws g.V.TCNode.edges g.met.V.TCNode.respects_eq c.args.nodes.now
    (contains g.K.PartialEq.eq c.args.nodes_to_fix.now) c.from_residual-in_err-reached.result (p.1 ∙ ap Err p.2)

pub returns-in_err-refuse_loop-clause-repairs : goal.returns-in_err-refuse_loop-clause-repairs
returns-in_err-refuse_loop-clause-repairs g c =
    let laws = g.met.K.Eq.laws in
    let fix = c.args.nodes_to_fix.now in
    let s = c.in_ok-read.read in
    let f = c.in_ok-read.ensures in
    let p = err_from_is_err_and c.from_residual-in_err-refuse_loop.result
    c.from_residual-in_err-refuse_loop.ensures.1 in
    rw (p.1, p.2) (repair_refused laws g.V.TCNode.edges g.met.V.TCNode.respects_eq c.args.nodes.now
    (contains g.K.PartialEq.eq fix) s (take s.near s.reading.keys.keys) f.same
    (λ q l. sym (member_alike laws fix.keys l.1 q l.4) ∙ f.only l.0 l.1 l.2 l.3)
    c.in_err-refuse_loop.field-0.0 c.in_err-refuse_loop.ensures.err)

pub write_rows-requires-clause-read : goal.write_rows-requires-clause-read
write_rows-requires-clause-read g c =
    let eq = g.K.PartialEq.eq in
    let s = c.in_ok-read.read in
    let f = c.in_ok-read.ensures in
    let ks = take s.near s.reading.keys.keys in
    record {
      unique = f.unique;
      arcs = f.arcs;
      ascending = f.ascending;
      fixed = f.fixed;
      edges = λ a b x y e p t. (and_parts (is_member eq ks x) (graph_of eq g.V.TCNode.edges c.args.nodes.now x y)
          (f.same.sound a b x y e p t)).1;
      complete = λ a x q lt h e. f.same.complete a x q h (and_from (is_member eq ks x)
          (graph_of eq g.V.TCNode.edges c.args.nodes.now x q) (f.near_fixed x (f.only a x lt h)) e);
    }

pub returns-in_err-write_rows-clause-repairs : goal.returns-in_err-write_rows-clause-repairs
returns-in_err-write_rows-clause-repairs g c =
    let laws = g.met.K.Eq.laws in
    let alike = g.met.V.TCNode.respects_eq in
    let fix = c.args.nodes_to_fix.now in
    let new = c.write_rows.new.nodes in
    let s = c.in_ok-read.read in
    let f = c.in_ok-read.ensures in
    let w = c.write_rows.ensures.writes in
    let p = err_from_is_err_and c.from_residual-in_err-write_rows.result
    c.from_residual-in_err-write_rows.ensures.1 in
    let only = repaired_only laws g.V.TCNode.edges alike c.args.nodes.now new s.reading.keys.keys (IsArc s.reading)
    s.fixed w.only (take s.near s.reading.keys.keys) f.same in
    repaired_in_part laws g.V.TCNode.edges alike c.args.nodes.now (contains g.K.PartialEq.eq fix) new
    (λ q out. w.alone q (λ at. false≢true (sym out ∙ sym (member_alike laws fix.keys at.2.0 q at.2.2)
    ∙ f.only at.0 at.2.0 at.1 at.2.1)))
    (record { stays = w.stays; only = only }) c.from_residual-in_err-write_rows.result (p.1 ∙ ap Err p.2)

pub returns-clause-repairs : goal.returns-clause-repairs
returns-clause-repairs g c =
    let laws = g.met.K.Eq.laws in
    let edges = g.V.TCNode.edges in
    let alike = g.met.V.TCNode.respects_eq in
    let nodes = c.args.nodes.now in
    let fix = c.args.nodes_to_fix.now in
    let fixes = contains g.K.PartialEq.eq fix in
    let new = c.write_rows.new.nodes in
    let s = c.in_ok-read.read in
    let f = c.in_ok-read.ensures in
    let w = c.in_ok-write_rows.ensures.writes in
    let keys = s.reading.keys.keys in
    let ks = take s.near keys in
    let only = repaired_only laws edges alike nodes new keys (IsArc s.reading) s.fixed w.only ks f.same in
    let has = repaired_has laws edges alike nodes new keys (IsArc s.reading) s.fixed w.ok ks f.same fixes f.all f.near
    f.near_fixed w.stays in
    repair_whole laws edges alike nodes fixes new
    (λ q out. w.alone q (λ at. false≢true (sym out ∙ sym (member_alike laws fix.keys at.2.0 q at.2.2)
    ∙ f.only at.0 at.2.0 at.1 at.2.1)))
    (record { stays = w.stays; only = only }) has
    (none_at laws edges alike nodes fixes s ks f.same f.unique f.all f.near f.near_fixed
    c.in_ok-refuse_loop.ensures.ok) tt
