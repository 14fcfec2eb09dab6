use Rattle.std.proofs.Common.{arith}
use Rattle.std.proofs.lemmas.Result.{on_ok_weaker, IfOk-weaker}
use Rattle.cedar_graph.specs.laws.Readings.{IsArc}
use Rattle.cedar_graph.specs.Graph.{graph_of}
use Rattle.cedar_graph.proofs.Closing.{closed_only, closed_has}
use Rattle.cedar_graph.proofs.Counting.{edged_within, nodes_there}
use Rattle.cedar_graph.proofs.Loops.{no_loop}
use Rattle.cedar_graph.proofs.close.close.Goals as goal

pub close_read-requires-clause-read : goal.close_read-requires-clause-read
close_read-requires-clause-read g c =
    let read = c.in_ok-read.ensures in
    record {
      unique = read.unique;
      arcs = read.arcs;
      ascending = read.ascending;
      fixed = read.fixed;
      edges = read.same.sound;
      complete = λ a x q _ h e. read.same.complete a x q h e;
    }

pub returns-clause-adds : goal.returns-clause-adds
returns-clause-adds g c =
    let s = c.in_ok-read.read in
    let w = c.close_read.ensures.writes in
    record {
      stays = w.stays;
      only = closed_only g.met.K.Eq.laws g.V.TCNode.edges g.met.V.TCNode.respects_eq c.args.nodes.now
          c.close_read.new.nodes s.reading.keys.keys (IsArc s.reading) s.fixed w.only c.in_ok-read.ensures.same;
    }

pub returns-clause-ok : goal.returns-clause-ok
returns-clause-ok g c =
    let s = c.in_ok-read.read in
    let f = c.in_ok-read.ensures in
    on_ok_weaker c.close_read.result
    (λ done. closed_has g.met.K.Eq.laws g.V.TCNode.edges g.met.V.TCNode.respects_eq c.args.nodes.now
    c.close_read.new.nodes s.reading.keys.keys (IsArc s.reading) s.fixed done f.same f.all)
    c.close_read.ensures.writes.ok

pub returns-clause-loops : goal.returns-clause-loops
returns-clause-loops g c =
    let s = c.in_ok-read.read in
    let f = c.in_ok-read.ensures in
    let nodes = c.args.nodes.now in
    let only = closed_only g.met.K.Eq.laws g.V.TCNode.edges g.met.V.TCNode.respects_eq nodes c.close_read.new.nodes
    s.reading.keys.keys (IsArc s.reading) s.fixed c.close_read.ensures.writes.only f.same in
    IfOk-weaker c.close_read.result _ _ (λ w none told. no_loop g.met.K.Eq.laws g.V.TCNode.edges nodes
    c.close_read.new.nodes s.reading.keys.keys f.unique (IsArc s.reading) s.fixed f.same f.all only (none told))
    c.close_read.ensures.loops

pub returns-clause-reads : goal.returns-clause-reads
returns-clause-reads g c =
    let f = c.in_ok-read.ensures in
    IfOk-weaker c.close_read.result _ _ (λ w work. omega (arith, work.reads, f.reads, f.few))
    c.close_read.ensures.work

pub returns-clause-closings : goal.returns-clause-closings
returns-clause-closings g c =
    IfOk-weaker c.close_read.result _ _ (λ w work. omega (arith, work.closings.most, c.in_ok-read.ensures.few))
    c.close_read.ensures.work

pub returns-clause-lists : goal.returns-clause-lists
returns-clause-lists g c =
    let s = c.in_ok-read.read in
    let f = c.in_ok-read.ensures in
    IfOk-weaker c.close_read.result _ _ (λ w work ks edged. omega (
      arith,
      work.reads,
      f.reads,
      edged_within g.met.K.Eq.laws (graph_of g.K.PartialEq.eq g.V.TCNode.edges c.args.nodes.now) s.reading.keys.keys
          s.fixed f.fixed f.all ks edged,
    )) c.close_read.ensures.work

pub returns-clause-visits : goal.returns-clause-visits
returns-clause-visits g c =
    let s = c.in_ok-read.read in
    let f = c.in_ok-read.ensures in
    IfOk-weaker c.close_read.result _ _ (λ w work ks edged. omega (
      arith,
      work.closings.all (nodes_there g.met.K.Eq.laws c.args.nodes.now s.reading.keys.keys s.fixed f.there),
      edged_within g.met.K.Eq.laws (graph_of g.K.PartialEq.eq g.V.TCNode.edges c.args.nodes.now) s.reading.keys.keys
          s.fixed f.fixed f.all ks edged,
    )) c.close_read.ensures.work
