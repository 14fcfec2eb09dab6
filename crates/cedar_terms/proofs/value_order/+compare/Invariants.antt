use Rattle.std.proofs.Common.{◌≡◌, ◌+◌, ◌*◌, ◌≤◌, drop}
use Rattle.std.specs.Slice.Iter.{iter_rest}
use Rattle.cedar_terms.specs.ValueTree.{value_size, values_size, fields_size, values_cmp, fields_cmp, value_trees}
use Rattle.cedar_terms.specs.ValueViews.{kind_tree, field_trees}
use Rattle.cedar_terms.proofs.value_order.+compare.Given as goal

abbrev pub decreases-compare : goal.decreases-compare
decreases-compare l = 3 * value_size l.a.now + 2

abbrev pub decreases-compare_kinds : goal.decreases-compare_kinds
decreases-compare_kinds l = 3 * value_size (kind_tree l.a.now) + 1

abbrev pub decreases-compare_elements : goal.decreases-compare_elements
decreases-compare_elements l = 3 * values_size (value_trees l.a.now.items) + 3

abbrev pub decreases-compare_fields : goal.decreases-compare_fields
decreases-compare_fields l = 3 * fields_size (field_trees l.a.now.entries) + 3

abbrev pub invariant-compare_elements-loop-value : goal.invariant-compare_elements-loop-value
invariant-compare_elements-loop-value l =
    (values_size (value_trees (drop l.value-index l.value-items)) ≤ values_size (value_trees l.a.items)) ×
    (values_cmp (value_trees (drop l.value-index l.value-items)) (value_trees (iter_rest l.others))
    ≡ values_cmp (value_trees l.a.items) (value_trees l.b.items))

abbrev pub invariant-compare_fields-loop-key : goal.invariant-compare_fields-loop-key
invariant-compare_fields-loop-key l =
    (fields_size (field_trees l.key-iterator) ≤ fields_size (field_trees l.a.entries)) ×
    (fields_cmp (field_trees l.key-iterator) (field_trees l.others)
    ≡ fields_cmp (field_trees l.a.entries) (field_trees l.b.entries))
