use Rattle.std.proofs.Common.{arith, sym, subst}
use Rattle.std.proofs.lemmas.Result.{err_from_is_err_and}
use Rattle.cedar_c_trees.specs.Items.{Combines}
use Rattle.cedar_c_trees.specs.Shapes.{IsAllowedInValue}
use Rattle.cedar_c_trees.specs.laws.Stacks.{is_text_value}
use Rattle.cedar_c_trees.proofs.Refusing.{Reading, all_done, next_read, empty_reading, too_deep, unmade}
use Rattle.cedar_c_trees.proofs.ValueMisfits.{values, value_arity}
use Rattle.cedar_c_trees.proofs.reading.value_of.Goals as goal

pub returns-in_err-check_levels : goal.returns-in_err-check_levels
returns-in_err-check_levels c =
    let p = err_from_is_err_and c.from_residual.result c.from_residual.ensures.1 in
    rw (p.1, p.2)
    (too_deep IsAllowedInValue value_arity c.args.text.now c.args.nodes.now _ c.in_err-check_levels.ensures)

pub loop-node-init : goal.loop-node-init
loop-node-init c =
    subst (Reading Combines is_text_value IsAllowedInValue c.args.text.now c.args.nodes.now 0) (sym c.new-stack.ensures.items)
    (empty_reading Combines is_text_value IsAllowedInValue c.args.text.now c.args.nodes.now)

pub returns-in_err-value : goal.returns-in_err-value
returns-in_err-value c =
    let p = err_from_is_err_and c.from_residual-in_err-value.result c.from_residual-in_err-value.ensures.1 in
    rw (p.1, p.2)
    (unmade Combines is_text_value IsAllowedInValue c.args.text.now c.args.nodes.now c.loop-node.node-index _
    c.loop-node.stack.items _ (omega arith) c.loop-node.invariant c.in_err-value.ensures)

pub loop-node-preserved : goal.loop-node-preserved
loop-node-preserved c =
    rw c.in_ok-push.ensures.items
    (next_read Combines is_text_value IsAllowedInValue values c.args.text.now c.args.nodes.now c.loop-node.node-index _
    c.loop-node.stack.items c.made.new.stack.items c.in_ok-value.value (omega arith) c.loop-node.invariant
    c.in_ok-value.ensures)

pub returns : goal.returns
returns c =
    all_done Combines is_text_value IsAllowedInValue values c.args.text.now c.args.nodes.now c.loop-node.node-index
    c.alone.result c.loop-node.stack.items (omega arith) c.loop-node.invariant c.in_ok-check_levels.ensures c.alone.ensures
