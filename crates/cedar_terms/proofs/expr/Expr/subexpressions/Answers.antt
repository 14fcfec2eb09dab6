use Rattle.std.proofs.Common.{◌++◌, ◌∷◌, [], ◌∙◌, ap, arith}
use Rattle.cedar_terms.proofs.Walks.{walk_begins, walk_goes_on, fewer_nodes, walk_ends, none_left}
use Rattle.cedar_terms.proofs.expr.Expr.subexpressions.Goals as goal

pub loop-node-init : goal.loop-node-init
loop-node-init c =
    walk_begins c.args.self c.push.new.self.items c.new-met.result.items (c.in_ok-push.ensures.items
    ∙ ap (λ xs. xs ++ c.args.self ∷ []) c.new-pending.ensures.items) c.new-met.ensures.items

pub loop-node-smaller : goal.loop-node-smaller
loop-node-smaller c =
    fewer_nodes c.in-Some.node c.loop-node.pending.items c.pop.new.self.items _ c.in-Some.ensures.items
    c.in_ok-push_children.ensures

pub loop-node-preserved : goal.loop-node-preserved
loop-node-preserved c =
    walk_goes_on c.in-Some.node c.loop-node.met.items c.push-in-Some.new.self.items c.loop-node.pending.items
    c.pop.new.self.items _ _ c.in-Some.ensures.items c.in_ok-push-2.ensures.items c.in_ok-push_children.ensures
    c.loop-node.invariant

pub returns : goal.returns
returns c =
    walk_ends c.loop-node.met.items c.loop-node.pending.items _
    (none_left c.loop-node.pending.items (omega (arith, c.in_default.ensures.cases.0))) c.loop-node.invariant
