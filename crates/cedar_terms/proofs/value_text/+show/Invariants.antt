use Rattle.std.proofs.Common.{◌≡◌, ◌+◌, ◌*◌, ◌≤◌, List, ◌++◌, drop, take, true, String}
use Rattle.std.specs.declared.alloc.Global.{Global}
use Rattle.std.specs.Fmt.{HasWritten, IsPlainFormatter}
use Rattle.cedar_terms.specs.ValueTree.{ValueTree, value_size, values_size, fields_size, value_trees}
use Rattle.cedar_terms.specs.ValueTexts.{values_text, fields_text, are_ascii_values, are_ascii_fields}
use Rattle.cedar_terms.specs.ValueViews.{field_trees}
use Rattle.cedar_terms.proofs.TextsJoined.{mark_after}
use Rattle.cedar_terms.proofs.value_text.+show.Given as goal

abbrev pub decreases-show : goal.decreases-show
decreases-show g l = 3 * value_size l.value.now + 1

abbrev pub decreases-write_elements : goal.decreases-write_elements
decreases-write_elements g l = 3 * values_size (value_trees l.elements.now.items) + 2

abbrev pub decreases-write_fields : goal.decreases-write_fields
decreases-write_fields g l = 3 * fields_size (field_trees l.fields.now.entries) + 2

abbrev pub invariant-write_elements-loop-element : goal.invariant-write_elements-loop-element
invariant-write_elements-loop-element g l =
    (values_size (value_trees (drop l.element-index l.element-items)) ≤ values_size (value_trees l.elements.items)) ×
    (l.before ≡ mark_after (take l.element-index l.element-items)) ×
    (are_ascii_values (value_trees l.elements.items) ≡ true
    → are_ascii_values (value_trees (drop l.element-index l.element-items)) ≡ true) ×
    (are_ascii_values (value_trees l.elements.items) ≡ true → IsPlainFormatter l.initial.f
    → HasWritten g.W.Write.write_str_gives l.initial.f
    (values_text (value_trees (take l.element-index l.element-items))) l.f)

abbrev pub invariant-write_fields-loop-key : goal.invariant-write_fields-loop-key
invariant-write_fields-loop-key g l =
    (done : List (String Global × ValueTree)) ×
    (l.fields.entries ≡ done ++ l.key-iterator) ×
    (fields_size (field_trees l.key-iterator) ≤ fields_size (field_trees l.fields.entries)) ×
    (l.before ≡ mark_after done) ×
    (are_ascii_fields (field_trees l.fields.entries) ≡ true → are_ascii_fields (field_trees l.key-iterator) ≡ true) ×
    (are_ascii_fields (field_trees l.fields.entries) ≡ true → IsPlainFormatter l.initial.f
    → HasWritten g.W.Write.write_str_gives l.initial.f (fields_text (field_trees done)) l.f)
