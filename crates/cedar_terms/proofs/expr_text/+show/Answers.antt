use Rattle.std.proofs.Common.{true, refl, arith, ap, drop, take, ◌+◌}
use Rattle.cedar_terms.specs.ExprTree.{expr_trees, exprs_size}
use Rattle.cedar_terms.specs.ExprTexts.{expr_text, exprs_text, is_ascii_expr, are_ascii_exprs}
use Rattle.cedar_terms.proofs.TextsJoined.{exprs-push, joined_step, left_at, done_at}
use Rattle.cedar_terms.proofs.expr_text.+show.Goals as goal

pub write_all_exprs-loop-expr-preserved : goal.write_all_exprs-loop-expr-preserved
write_all_exprs-loop-expr-preserved g t c =
    let xs = c.deref-expr-items.result.now in
    let i = c.loop-expr.expr-index in
    let x = c.expr-item.result in
    let left = left_at xs i x c.loop-expr-test.true c.expr-item.is in
    let step =
    joined_step g.W.Write.write_str_gives (λ es. exprs_text (expr_trees es)) expr_text exprs-push
    (λ es. are_ascii_exprs (expr_trees es)) is_ascii_expr (λ y ys. refl)
    (take i xs) (take (i + 1) xs) (drop i xs)
    (drop (i + 1) xs) x c.loop-expr.before.now c.args.f.now c.loop-expr.f c.write_str.new.self c.show.new.f
    left (done_at xs i x c.loop-expr-test.true c.expr-item.is) c.loop-expr.invariant.1 c.loop-expr.invariant.2
    c.loop-expr.invariant.3
    (λ p. c.in_ok-write_str.ensures.writes p (refl {a = true})) (λ a p. c.in_ok-show.ensures a p (refl {a = true})) in
    (omega (arith, ap (λ es. exprs_size (expr_trees es)) left, c.loop-expr.invariant.0), step.0, step.1, step.2)
