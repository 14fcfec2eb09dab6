use Rattle.std.proofs.Common.{◌<◌, length, sym, subst}
use Rattle.cedar_graph.specs.laws.Readings.{IsArc}
use Rattle.cedar_graph.proofs.Checking.{goes_two}
use Rattle.cedar_graph.proofs.closed.first_lack.Goals as goal

pub returns-then-knows_reached-clause-none : goal.returns-then-knows_reached-clause-none
returns-then-knows_reached-clause-none g c = λ _ b e xb be.
    let keys = c.args.read.now.keys.keys in
    let e_in = subst (λ n. n < length keys) be.3 (c.requires.arcs.to_in be.0 be.1) in
    c.requires.known.only e (subst (λ n. e < n) (sym c.requires.marks) e_in)
    (c.knows_reached.ensures c.if-knows_reached.true e (goes_two (IsArc c.args.read.now) c.args.x b e xb be))
