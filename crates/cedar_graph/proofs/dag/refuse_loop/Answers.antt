use Rattle.std.proofs.Common.{rules}
use Rattle.cedar_graph.proofs.dag.refuse_loop.Goals as goal

pub returns-clause-ok : goal.returns-clause-ok
returns-clause-ok g c = c.first_loop.ensures.none (search rules)
