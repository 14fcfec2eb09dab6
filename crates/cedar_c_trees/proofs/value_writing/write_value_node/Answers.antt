use Rattle.std.proofs.Common.{ap, arith, btree_map_len, refl, sym, vec_len, ◌∙◌}
use Rattle.std.proofs.lemmas.Result.{on_ok_weaker}
use Rattle.cedar_terms.specs.ValueTree.{value_trees}
use Rattle.cedar_terms.specs.ValueViews.{field_trees}
use Rattle.cedar_c_trees.specs.Items.{record_item, set_item}
use Rattle.cedar_c_trees.specs.Plans.{fields_count, fields_plan, values_count, values_plan}
use Rattle.cedar_c_trees.proofs.Drafting.{adds_one, fields_counted, values_counted, writes_node}
use Rattle.cedar_c_trees.proofs.value_writing.write_value_node.Goals as goal

pub returns-in_ok-put-in-Set : goal.returns-in_ok-put-in-Set
returns-in_ok-put-in-Set c =
    let vs = c.in-Set.elements.value.items in
    rw (← c.value.view_is, c.in-Set.is)
    (on_ok_weaker c.push_values.result
    (writes_node (set_item (values_count (value_trees vs))) (values_plan (value_trees vs)) (Unit {0}) c.args.draft.now
    c.put.new.self
    c.args.pending.now.items c.push_values.new.pending.items
    (adds_one _ (set_item (values_count (value_trees vs))) c.args.draft.now c.put.new.self c.in_ok-put-in-Set.ensures
    (refl, omega (arith, c.len.ensures, ap vec_len c.deref.ensures, c.in-Set.elements.value.ok.0, values_counted vs))
    (refl, refl)))
    (rw c.deref-in-Set.ensures at c.push_values.ensures))

pub returns-in_ok-put-in-Record : goal.returns-in_ok-put-in-Record
returns-in_ok-put-in-Record c =
    let fs = c.in-Record.fields.value.entries in
    rw (← c.value.view_is, c.in-Record.is)
    (on_ok_weaker c.push_fields.result
    (writes_node (record_item (fields_count (field_trees fs))) (fields_plan (field_trees fs)) (Unit {0})
    c.args.draft.now
    c.put-in-Record.new.self c.args.pending.now.items c.push_fields.new.pending.items
    (adds_one _ (record_item (fields_count (field_trees fs))) c.args.draft.now c.put-in-Record.new.self
    c.in_ok-put-in-Record.ensures
    (refl, c.len-in-Record.ensures.len ∙ ap btree_map_len c.deref-in-Record.ensures ∙ sym (fields_counted fs))
    (refl, refl)))
    (rw c.deref-in-Record-2.ensures at c.push_fields.ensures))
