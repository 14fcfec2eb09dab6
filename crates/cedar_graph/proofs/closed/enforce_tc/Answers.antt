use Rattle.std.proofs.lemmas.Result.{IfErr-weaker, on_ok_weaker}
use Rattle.cedar_graph.specs.laws.Readings.{IsArc}
use Rattle.cedar_graph.proofs.Checking.{breaks, closed_from}
use Rattle.cedar_graph.proofs.Members.{MatchFault-weaker}
use Rattle.cedar_graph.proofs.closed.enforce_tc.Goals as goal

pub returns-clause-ok : goal.returns-clause-ok
returns-clause-ok g c =
    let f = c.in_ok-read.ensures in
    let s = c.in_ok-read.read in
    on_ok_weaker c.check_numbers.result
    (closed_from g.met.K.Eq.laws g.V.TCNode.edges g.met.V.TCNode.respects_eq c.args.nodes.now s.reading.keys.keys
    (IsArc s.reading) f.same s.fixed f.all) c.check_numbers.ensures.ok

pub returns-clause-err : goal.returns-clause-err
returns-clause-err g c =
    let f = c.in_ok-read.ensures in
    let s = c.in_ok-read.read in
    IfErr-weaker c.check_numbers.result _ _ (λ e.
    MatchFault-weaker e _ _ _ _
    (λ a b d l. breaks g.met.K.Eq.laws g.V.TCNode.edges g.met.V.TCNode.respects_eq c.args.nodes.now
    s.reading.keys.keys (IsArc s.reading) f.same f.unique l.0 l.1.0 l.1.1 a b d l.1.2 l.1.3 l.1.4 l.1.5 l.1.6
    l.1.7) (λ _ none. none)) c.check_numbers.ensures.err
