use mir.Val.{SFits}
use mir.Syntax.{w64}
use Rattle.std.proofs.lemmas.Int.{to_z-of_z}
use Rattle.std.proofs.lemmas.Result.{err_from_is_err_and}
use Rattle.std.proofs.Common.{arith, rules, refl, sym, ℕ, List, [], map, inl}
use mathlib.Core.List.{append-nil}
use Rattle.cedar_terms.specs.ExprTree.{ExprTree}
use Rattle.cedar_c_trees.specs.Items.{BuildsExpr, Item, set_item, call_item, var_item, slot_item}
use Rattle.cedar_c_trees.specs.Reads.{Decodes}
use Rattle.cedar_c_trees.specs.Shapes.{IsAllowedInExpr}
use Rattle.cedar_c_trees.specs.declared.node.Node.{Node}
use Rattle.cedar_c_trees.specs.laws.Stacks.{Makes, is_text_expr}
use Rattle.cedar_c_trees.proofs.Misfits.{literal_unmade}
use Rattle.cedar_c_trees.proofs.Stacks.{makes}
use Rattle.cedar_c_trees.proofs.expr_reading.joined.Goals as goal

pub returns-in_err-literal-in-0-to-3 : goal.returns-in_err-literal-in-0-to-3
returns-in_err-literal-in-0-to-3 c =
    let p = err_from_is_err_and c.from_residual-in_err-literal-in-0-to-3.result
    c.from_residual-in_err-literal-in-0-to-3.ensures.1 in
    rw (p.1, p.2)
    (inl (literal_unmade IsAllowedInExpr c.args.text.now c.args.node.now (map is_text_expr c.args.stack.now.items) _
    (omega arith) c.in_err-literal-in-0-to-3.ensures))

pub returns-in_ok-set-in-4 : goal.returns-in_ok-set-in-4
returns-in_ok-set-in-4 c =
    makes _ _ _ _ _ _ (set_item c.args.node.now.len) c.in_ok-exprs-in-4.exprs.items (omega arith, refl)
    c.in_ok-exprs-in-4.ensures.0 (c.in_ok-exprs-in-4.ensures.1, c.in_ok-set-in-4.ensures)

pub returns-in_ok-call-in-6 : goal.returns-in_ok-call-in-6
returns-in_ok-call-in-6 c =
    makes _ _ _ _ _ _ (call_item c.in_ok-name-in-6.name c.args.node.now.len) c.in_ok-exprs-in-6.exprs.items
    (omega arith, refl, c.in_ok-name-in-6.ensures) c.in_ok-exprs-in-6.ensures.0
    (c.in_ok-exprs-in-6.ensures.1, c.in_ok-call-in-6.ensures)

-- An item without operands leaves the stack as it is.
leaf : (text : List ℕ) (n : Node) (es : List ExprTree) (i : Item) (e : ExprTree) → Decodes text n i → BuildsExpr i [] e
    → Makes BuildsExpr text n es es e
leaf text n es i e says builds = makes BuildsExpr text n es es e i [] says (sym (append-nil es)) builds

pub returns-in_ok-val-in-7 : goal.returns-in_ok-val-in-7
returns-in_ok-val-in-7 c =
    leaf c.args.text.now c.args.node.now c.args.stack.now.items (var_item c.in_ok-var-in-7.var) _
    (omega arith, let f : SFits w64 c.args.node.now.number = search rules in simp to_z-of_z at c.in_ok-var-in-7.ensures)
    (refl, c.in_ok-val-in-7.ensures)

pub returns-in_ok-val-in-8 : goal.returns-in_ok-val-in-8
returns-in_ok-val-in-8 c =
    leaf c.args.text.now c.args.node.now c.args.stack.now.items (slot_item c.in_ok-slot-in-8.slot) _
    (omega arith, let f : SFits w64 c.args.node.now.number = search rules in simp to_z-of_z at c.in_ok-slot-in-8.ensures)
    (refl, c.in_ok-val-in-8.ensures)
