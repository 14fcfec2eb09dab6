use Rattle.std.proofs.Common.{◌≡◌, rules, true}
use Rattle.std.specs.List.{slice_get}
use Rattle.cedar_graph.proofs.Keyed.{some_and}
use Rattle.cedar_graph.proofs.Progress.{put_fresh}
use Rattle.cedar_graph.proofs.arcs.add_arc.Goals as goal

pub returns-clause-arc : goal.returns-clause-arc
returns-clause-arc g c =
    let eq = g.K.PartialEq.eq in
    let p = c.in_ok-b.ensures in
    record {
      unique = p.unique;
      keys = p.more;
      from = search rules;
      to = search rules;
      found = some_and (slice_get c.number_of.new.keys.keys c.in_ok-b.b) (λ k. eq c.args.key.now k ≡ true) p.found;
      fresh = put_fresh g.met.K.Eq.laws c.args.key.now c.args.s.now.keys c.number_of.new.keys c.in_ok-b.b p;
    }
