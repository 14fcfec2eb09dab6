use Rattle.std.proofs.Common.{sym}
use Rattle.cedar_terms.specs.laws.ExprLaws.{same_expr_decides}
use Rattle.cedar_deep_copy.proofs.values.deep_copy_expr.Goals as goal

pub returns-then-eq : goal.returns-then-eq
returns-then-eq c = (same_expr_decides c.in-Ok.copy c.args.expr.now).0 (sym c.if-eq.ensures)
