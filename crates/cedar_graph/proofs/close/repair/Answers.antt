use Rattle.std.proofs.Common.{arith, sym, ◌∙◌, take}
use Rattle.std.specs.Set.{is_member}
use Rattle.std.specs.HashSet.{contains}
use Rattle.std.proofs.lemmas.Bool.{false≢true}
use Rattle.cedar_graph.specs.Graph.{graph_of}
use Rattle.cedar_graph.specs.laws.Readings.{IsArc}
use Rattle.cedar_graph.proofs.Closing.{repaired_only, repaired_has}
use Rattle.cedar_graph.proofs.Reaches.{and_parts, and_from}
use Rattle.cedar_graph.proofs.Keyed.{member_alike}
use Rattle.cedar_graph.proofs.Progress.{at_most_near}
use Rattle.cedar_graph.proofs.close.repair.Goals as goal

pub close_read-requires-clause-read : goal.close_read-requires-clause-read
close_read-requires-clause-read g c =
    let eq = g.K.PartialEq.eq in
    let s = c.in_ok-read.read in
    let f = c.in_ok-read.ensures in
    let ks = take s.near s.reading.keys.keys in
    record {
      unique = f.unique;
      arcs = f.arcs;
      ascending = f.ascending;
      fixed = f.fixed;
      edges = λ a b x y e p t. (and_parts (is_member eq ks x) (graph_of eq g.V.TCNode.edges c.args.nodes.now x y)
          (f.same.sound a b x y e p t)).1;
      complete = λ a x q lt h e. f.same.complete a x q h (and_from (is_member eq ks x)
          (graph_of eq g.V.TCNode.edges c.args.nodes.now x q) (f.near_fixed x (f.only a x lt h)) e);
    }

pub returns-in_err-closed-clause-alone : goal.returns-in_err-closed-clause-alone
returns-in_err-closed-clause-alone g c =
    let fix = c.args.fix.now in
    λ q out. c.close_read.ensures.writes.alone q (λ at.
    false≢true (sym out ∙ sym (member_alike g.met.K.Eq.laws fix.keys at.2.0 q at.2.2)
    ∙ c.in_ok-read.ensures.only at.0 at.2.0 at.1 at.2.1))

pub returns-in_err-closed-clause-adds : goal.returns-in_err-closed-clause-adds
returns-in_err-closed-clause-adds g c =
    let s = c.in_ok-read.read in
    let keys = s.reading.keys.keys in
    let w = c.close_read.ensures.writes in
    record {
      stays = w.stays;
      only = repaired_only g.met.K.Eq.laws g.V.TCNode.edges g.met.V.TCNode.respects_eq c.args.nodes.now
          c.close_read.new.nodes keys (IsArc s.reading) s.fixed w.only (take s.near keys) c.in_ok-read.ensures.same;
    }

pub returns-clause-alone : goal.returns-clause-alone
returns-clause-alone g c =
    let fix = c.args.fix.now in
    λ q out. c.close_read.ensures.writes.alone q (λ at.
    false≢true (sym out ∙ sym (member_alike g.met.K.Eq.laws fix.keys at.2.0 q at.2.2)
    ∙ c.in_ok-read.ensures.only at.0 at.2.0 at.1 at.2.1))

pub returns-clause-adds : goal.returns-clause-adds
returns-clause-adds g c =
    let s = c.in_ok-read.read in
    let keys = s.reading.keys.keys in
    let w = c.close_read.ensures.writes in
    record {
      stays = w.stays;
      only = repaired_only g.met.K.Eq.laws g.V.TCNode.edges g.met.V.TCNode.respects_eq c.args.nodes.now
          c.close_read.new.nodes keys (IsArc s.reading) s.fixed w.only (take s.near keys) c.in_ok-read.ensures.same;
    }

pub returns-clause-ok : goal.returns-clause-ok
returns-clause-ok g c =
    let eq = g.K.PartialEq.eq in
    let s = c.in_ok-read.read in
    let f = c.in_ok-read.ensures in
    let keys = s.reading.keys.keys in
    let w = c.in_ok-closed.ensures.writes in
    repaired_has g.met.K.Eq.laws g.V.TCNode.edges g.met.V.TCNode.respects_eq c.args.nodes.now
    c.close_read.new.nodes keys (IsArc s.reading) s.fixed w.ok (take s.near keys) f.same
    (contains eq c.args.fix.now) f.all f.near f.near_fixed w.stays

pub returns-clause-reads : goal.returns-clause-reads
returns-clause-reads g c =
    let f = c.in_ok-read.ensures in
    let s = c.in_ok-read.read in
    let work = c.in_ok-closed.ensures.work in
    at_most_near g.met.K.Eq.laws (contains g.K.PartialEq.eq c.args.fix.now)
    (graph_of g.K.PartialEq.eq g.V.TCNode.edges c.args.nodes.now) s.reading.keys.keys s.near
    c.in_ok-closed.closed.work.reads f.unique f.within (omega (arith, work.reads, f.reads)) f.only_near

pub returns-clause-closings : goal.returns-clause-closings
returns-clause-closings g c =
    omega (arith, c.in_ok-closed.ensures.work.closings.most, c.in_ok-read.ensures.len)

pub returns-clause-visits : goal.returns-clause-visits
returns-clause-visits g c =
    let f = c.in_ok-read.ensures in
    let fix = c.args.fix.now in
    λ all.
    let whole = c.in_ok-closed.ensures.work.closings.all (λ q at.
    all q (sym (member_alike g.met.K.Eq.laws fix.keys at.2.0 q at.2.2) ∙ f.only at.0 at.2.0 at.1 at.2.1)) in
    omega (arith, whole, f.least)
