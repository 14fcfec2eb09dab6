use Rattle.std.proofs.Common.{◌≡◌, ◌+◌, ◌*◌, ◌≤◌, drop}
use Rattle.cedar_terms.specs.ValueTree.{value_size, values_size, fields_size, value_trees}
use Rattle.cedar_terms.specs.ValueViews.{field_trees}
use Rattle.cedar_entity.specs.Validity.{reserved_in_all, reserved_in_record}
use Rattle.cedar_entity.proofs.reserved.+find.Given as goal

abbrev pub decreases-in_value : goal.decreases-in_value
decreases-in_value l = 3 * value_size l.value.now + 1

abbrev pub decreases-in_elements : goal.decreases-in_elements
decreases-in_elements l = 3 * values_size (value_trees l.elements.now.items) + 2

abbrev pub decreases-in_record : goal.decreases-in_record
decreases-in_record l = 3 * fields_size (field_trees l.fields.now.entries) + 2

abbrev pub invariant-in_elements-loop-element : goal.invariant-in_elements-loop-element
invariant-in_elements-loop-element l =
    (values_size (value_trees (drop l.element-index l.element-items)) ≤ values_size (value_trees l.elements.items)) ×
    (reserved_in_all (value_trees (drop l.element-index l.element-items))
    ≡ reserved_in_all (value_trees l.elements.items))

abbrev pub invariant-in_record-loop-key : goal.invariant-in_record-loop-key
invariant-in_record-loop-key l =
    (fields_size (field_trees l.key-iterator) ≤ fields_size (field_trees l.fields.entries)) ×
    (reserved_in_record (field_trees l.key-iterator) ≡ reserved_in_record (field_trees l.fields.entries))
