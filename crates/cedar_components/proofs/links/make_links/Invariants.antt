use Rattle.cedar_components.specs.laws.Arcs.{AreLinksTo}
use Rattle.cedar_components.proofs.links.make_links.Given as goal

abbrev pub invariant-loop-k : goal.invariant-loop-k
invariant-loop-k l = AreLinksTo l.ends l.k l.head.items l.link.items l.n
