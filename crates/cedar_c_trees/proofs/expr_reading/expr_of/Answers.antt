use Rattle.std.proofs.Common.{arith, sym, subst}
use Rattle.std.proofs.lemmas.Result.{err_from_is_err_and}
use Rattle.cedar_c_trees.specs.Items.{BuildsExpr}
use Rattle.cedar_c_trees.specs.Shapes.{IsAllowedInExpr}
use Rattle.cedar_c_trees.specs.laws.Stacks.{is_text_expr}
use Rattle.cedar_c_trees.proofs.ExprMisfits.{exprs, expr_arity, unjoined}
use Rattle.cedar_c_trees.proofs.Refusing.{Reading, all_done, next_read, empty_reading, too_deep}
use Rattle.cedar_c_trees.proofs.expr_reading.expr_of.Goals as goal

pub returns-in_err-check_levels : goal.returns-in_err-check_levels
returns-in_err-check_levels c =
    let p = err_from_is_err_and c.from_residual.result c.from_residual.ensures.1 in
    rw (p.1, p.2)
    (too_deep IsAllowedInExpr expr_arity c.args.text.now c.args.nodes.now _ c.in_err-check_levels.ensures)

pub loop-node-init : goal.loop-node-init
loop-node-init c =
    subst (Reading BuildsExpr is_text_expr IsAllowedInExpr c.args.text.now c.args.nodes.now 0) (sym c.new-stack.ensures.items)
    (empty_reading BuildsExpr is_text_expr IsAllowedInExpr c.args.text.now c.args.nodes.now)

pub returns-in_err-expr : goal.returns-in_err-expr
returns-in_err-expr c =
    let p = err_from_is_err_and c.from_residual-in_err-expr.result c.from_residual-in_err-expr.ensures.1 in
    rw (p.1, p.2)
    (unjoined c.args.text.now c.args.nodes.now c.loop-node.node-index _ c.loop-node.stack.items _ (omega arith)
    c.loop-node.invariant c.in_err-expr.ensures)

pub loop-node-preserved : goal.loop-node-preserved
loop-node-preserved c =
    rw c.in_ok-push.ensures.items
    (next_read BuildsExpr is_text_expr IsAllowedInExpr exprs c.args.text.now c.args.nodes.now c.loop-node.node-index _
    c.loop-node.stack.items c.joined.new.stack.items c.in_ok-expr.expr (omega arith) c.loop-node.invariant
    c.in_ok-expr.ensures)

pub returns : goal.returns
returns c =
    all_done BuildsExpr is_text_expr IsAllowedInExpr exprs c.args.text.now c.args.nodes.now c.loop-node.node-index
    c.only_expr.result c.loop-node.stack.items (omega arith) c.loop-node.invariant c.in_ok-check_levels.ensures
    c.only_expr.ensures
