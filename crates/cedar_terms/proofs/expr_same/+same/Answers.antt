use Rattle.std.proofs.Common.{◌∙◌, sym}
use Rattle.cedar_terms.specs.ExprTree.{expr_trees}
use Rattle.cedar_terms.proofs.Told.{functions_told}
use Rattle.cedar_terms.proofs.expr_same.+same.Goals as goal

pub same-returns-else-eq : goal.same-returns-else-eq
same-returns-else-eq t c =
    rw (← c.a.view_is, ← c.b.view_is, c.in-Call.is, c.in-Call-kind.is)
    (c.if-eq.false
    ∙ sym (functions_told c.in-Call.f c.in-Call-kind.g (expr_trees c.in-Call.xs.value.items)
    (expr_trees c.in-Call-kind.ys.value.items) (sym c.eq-in-Call-kind.ensures ∙ c.if-eq.false)))
