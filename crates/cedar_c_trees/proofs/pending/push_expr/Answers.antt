use Rattle.cedar_c_trees.specs.declared.pending.Pending.TheVariants as pendings
use Rattle.cedar_c_trees.proofs.Drafting.{pushed_one}
use Rattle.cedar_c_trees.proofs.pending.push_expr.Goals as goal

pub returns : goal.returns
returns c =
    pushed_one c.args.pending.now.items c.push.new.self.items (pendings.Expr c.args.expr) c.in_ok-push.ensures.items
