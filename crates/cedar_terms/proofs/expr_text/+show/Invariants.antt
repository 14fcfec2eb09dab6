use Rattle.std.proofs.Common.{◌≡◌, ◌+◌, ◌*◌, ◌≤◌, drop, take, true}
use Rattle.std.specs.Fmt.{HasWritten, IsPlainFormatter}
use Rattle.cedar_terms.specs.ExprTree.{expr_size, exprs_size, expr_trees}
use Rattle.cedar_terms.specs.ExprTexts.{exprs_text, are_ascii_exprs}
use Rattle.cedar_terms.proofs.TextsJoined.{mark_after}
use Rattle.cedar_terms.proofs.expr_text.+show.Given as goal

abbrev pub decreases-show : goal.decreases-show
decreases-show g l = 3 * expr_size l.expr.now + 1

abbrev pub decreases-write_operand : goal.decreases-write_operand
decreases-write_operand g l = 3 * expr_size l.expr.now + 2

abbrev pub decreases-write_all_exprs : goal.decreases-write_all_exprs
decreases-write_all_exprs g l = 3 * exprs_size (expr_trees l.exprs.now.items) + 2

abbrev pub invariant-write_all_exprs-loop-expr : goal.invariant-write_all_exprs-loop-expr
invariant-write_all_exprs-loop-expr g l =
    (exprs_size (expr_trees (drop l.expr-index l.expr-items)) ≤ exprs_size (expr_trees l.exprs.items)) ×
    (l.before ≡ mark_after (take l.expr-index l.expr-items)) ×
    (are_ascii_exprs (expr_trees l.exprs.items) ≡ true
    → are_ascii_exprs (expr_trees (drop l.expr-index l.expr-items)) ≡ true) ×
    (are_ascii_exprs (expr_trees l.exprs.items) ≡ true → IsPlainFormatter l.initial.f
    → HasWritten g.W.Write.write_str_gives l.initial.f
    (exprs_text (expr_trees (take l.expr-index l.expr-items))) l.f)
