-- The expressions of action constraints.
use Rattle.std.specs.Prelude.{map, true}
use Rattle.cedar_terms.specs.LiteralTree.{bool_literal}
use Rattle.cedar_terms.specs.ExprTree.{ExprTree, val_node, var_node, slot_node, eq_node, in_node, set_node, expr_trees}
use Rattle.cedar_terms.specs.declared.slot.SlotId.TheVariants as slots
use Rattle.cedar_terms.specs.declared.var.Var.TheVariants as vars
use Rattle.cedar_action.specs.Rules.{ActionRule, any_action, among, just, among_slot, just_slot}
use Rattle.cedar_terms.specs.UidTrees.{uid_expr}

-- The expression of a rule: `true`, `action in` the set of the uids in order, `action == U`, `action in ?action` or
-- `action == ?action`.
abbrev pub rule_expr : ActionRule → ExprTree
rule_expr any_action = val_node (bool_literal true)
rule_expr (among us) = in_node (var_node vars.Action) (set_node (expr_trees (map uid_expr us)))
rule_expr (just u) = eq_node (var_node vars.Action) (uid_expr u)
rule_expr among_slot = in_node (var_node vars.Action) (slot_node slots.Action)
rule_expr just_slot = eq_node (var_node vars.Action) (slot_node slots.Action)
