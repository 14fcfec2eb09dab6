use Rattle.std.proofs.Common.{sym}
use Rattle.cedar_terms.specs.laws.PartialLaws.{same_partial_decides}
use Rattle.cedar_deep_copy.proofs.values.deep_copy_partial.Goals as goal

pub returns-then-eq : goal.returns-then-eq
returns-then-eq c = (same_partial_decides c.in-Ok.copy c.args.partial.now).0 (sym c.if-eq.ensures)
