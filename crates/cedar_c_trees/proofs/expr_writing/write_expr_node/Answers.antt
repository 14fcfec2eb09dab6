use mir.Val.{SFits}
use mir.Syntax.{w64}
use Rattle.std.proofs.lemmas.Int.{to_z-of_z}
use Rattle.std.proofs.Common.{length, refl, rules, sym, []}
use Rattle.std.proofs.lemmas.Result.{on_ok_weaker}
use Rattle.cedar_terms.specs.ExprTree.{and_operator, eq_operator, expr_trees, in_operator}
use Rattle.cedar_c_trees.specs.Items.{binary_item, call_item, no_trees, node, not_item, set_item, slot_item, var_item}
use Rattle.cedar_c_trees.specs.Plans.{HasNames, HaveNames, expr_plan, exprs_count, exprs_plan}
use Rattle.cedar_c_trees.proofs.Drafting.{adds_one, exprs_counted, writes_all, writes_node, writes_one, writes_two}
use Rattle.cedar_c_trees.proofs.expr_writing.write_expr_node.Goals as goal

pub returns-in-Var : goal.returns-in-Var
returns-in-Var c =
    let v = c.in-Var.var in
    rw (← c.in-Var.ensures)
    (on_ok_weaker c.put.result
    (λ h. writes_all (node (var_item v) no_trees) (Unit {0}) (var_item v) [] c.args.draft.now c.put.new.self
    c.args.pending.now.items tt
    (adds_one _ (var_item v) c.args.draft.now c.put.new.self h
    (refl, (let f : SFits w64 c.var_number.result = search rules in rw to_z-of_z c.var_number.ensures)) (refl, refl))
    refl)
    c.put.ensures)

pub returns-in-Slot : goal.returns-in-Slot
returns-in-Slot c =
    let s = c.in-Slot.slot in
    rw (← c.in-Slot.ensures)
    (on_ok_weaker c.put-in-Slot.result
    (λ h. writes_all (node (slot_item s) no_trees) (Unit {0}) (slot_item s) [] c.args.draft.now c.put-in-Slot.new.self
    c.args.pending.now.items tt
    (adds_one _ (slot_item s) c.args.draft.now c.put-in-Slot.new.self h
    (refl, (let f : SFits w64 c.slot_number.result = search rules in rw to_z-of_z c.slot_number.ensures)) (refl, refl))
    refl)
    c.put-in-Slot.ensures)

pub returns-in_ok-put-in-Set : goal.returns-in_ok-put-in-Set
returns-in_ok-put-in-Set c =
    let es = c.in-Set.exprs.now in
    rw (← c.in-Set.ensures)
    (on_ok_weaker c.push_exprs.result
    (writes_node (set_item (exprs_count (expr_trees es))) (exprs_plan (expr_trees es)) (HaveNames (expr_trees es))
    c.args.draft.now c.put-in-Set.new.self c.args.pending.now.items c.push_exprs.new.pending.items
    (adds_one _ (set_item (exprs_count (expr_trees es))) c.args.draft.now c.put-in-Set.new.self
    c.in_ok-put-in-Set.ensures
    (refl, sym (exprs_counted es)) (refl, refl)))
    c.push_exprs.ensures)

pub returns-in_ok-write_call-in-Call : goal.returns-in_ok-write_call-in-Call
returns-in_ok-write_call-in-Call c =
    let es = c.in-Call.args.now in
    rw (← c.in-Call.ensures, exprs_counted es)
    (on_ok_weaker c.push_exprs-in-Call.result
    (writes_node (call_item c.in-Call.name.now (length es)) (exprs_plan (expr_trees es)) (HaveNames (expr_trees es))
    c.args.draft.now c.write_call.new.draft c.args.pending.now.items c.push_exprs-in-Call.new.pending.items
    c.in_ok-write_call-in-Call.ensures)
    c.push_exprs-in-Call.ensures)

pub returns-in_ok-put-in-Not : goal.returns-in_ok-put-in-Not
returns-in_ok-put-in-Not c =
    rw (← c.in-Not.ensures)
    (on_ok_weaker c.push_expr.result
    (writes_one not_item (expr_plan c.in-Not.operand.now) (HasNames c.in-Not.operand.now) c.args.draft.now
    c.put-in-Not.new.self c.args.pending.now.items
    c.push_expr.new.pending.items
    (adds_one _ not_item c.args.draft.now c.put-in-Not.new.self c.in_ok-put-in-Not.ensures refl
    (refl, refl, refl)))
    c.push_expr.ensures)

pub returns-in_ok-put-in-And : goal.returns-in_ok-put-in-And
returns-in_ok-put-in-And c =
    rw (← c.in-And.ensures) (on_ok_weaker _ (writes_two (binary_item and_operator) _ _ _ _ _ _ _
    (adds_one _ _ _ _ c.in_ok-put-in-And.ensures refl (refl, refl, refl))) c.push_two.ensures)

pub returns-in_ok-put-in-Eq : goal.returns-in_ok-put-in-Eq
returns-in_ok-put-in-Eq c =
    rw (← c.in-Eq.ensures) (on_ok_weaker _ (writes_two (binary_item eq_operator) _ _ _ _ _ _ _
    (adds_one _ _ _ _ c.in_ok-put-in-Eq.ensures refl (refl, refl, refl))) c.push_two-in-Eq.ensures)

pub returns-in_ok-put-in-In : goal.returns-in_ok-put-in-In
returns-in_ok-put-in-In c =
    rw (← c.in-In.ensures) (on_ok_weaker _ (writes_two (binary_item in_operator) _ _ _ _ _ _ _
    (adds_one _ _ _ _ c.in_ok-put-in-In.ensures refl (refl, refl, refl))) c.push_two-in-In.ensures)
