use Rattle.std.proofs.Common.{arith, inr}
use Rattle.std.proofs.lemmas.Result.{err_from_is_err_and}
use Rattle.cedar_c_bodies.specs.Annotated.{IsNoPairAt, IsPairAt}
use Rattle.cedar_c_bodies.specs.declared.layout.AnnotationAt.{AnnotationAt}
use Rattle.cedar_c_bodies.proofs.Zipping.{read_next, so_at}
use Rattle.cedar_c_bodies.proofs.annotated.pairs_at.Goals as goal

pub loop-at-preserved : goal.loop-at-preserved
loop-at-preserved c =
    rw c.in_ok-push.ensures.items
    (read_next (IsPairAt c.args.text.now) c.loop-at.pairs.items c.args.annotations.now c.loop-at.at-index _
    c.in_ok-pair.pair (omega arith) c.loop-at.invariant c.in_ok-pair.ensures)

pub returns-in_err-pair : goal.returns-in_err-pair
returns-in_err-pair c =
    let p = err_from_is_err_and c.from_residual.result c.from_residual.ensures.1 in
    rw (p.1, p.2)
    (inr (so_at (λ (at : AnnotationAt). IsNoPairAt c.args.text.now at _) c.args.annotations.now c.loop-at.at-index _
    (omega arith) c.in_err-pair.ensures))
