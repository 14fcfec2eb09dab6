use Rattle.std.proofs.Common.{◌≡◌, ◌+◌, ◌*◌, ◌≤◌, drop}
use Rattle.std.specs.Prelude.{fold}
use Rattle.cedar_terms.specs.ValueTree.{value_size, values_size, fields_size, value_trees}
use Rattle.cedar_terms.specs.ValueHash.{values_hash, fields_hash}
use Rattle.cedar_terms.specs.ValueViews.{kind_tree, field_trees}
use Rattle.cedar_terms.proofs.value_hash.+feed.Given as goal

abbrev pub decreases-feed : goal.decreases-feed
decreases-feed g l = 3 * value_size l.value.now + 2

abbrev pub decreases-feed_kind : goal.decreases-feed_kind
decreases-feed_kind g l = 3 * value_size (kind_tree l.kind.now) + 1

abbrev pub decreases-feed_elements : goal.decreases-feed_elements
decreases-feed_elements g l = 3 * values_size (value_trees l.elements.now.items) + 3

abbrev pub decreases-feed_fields : goal.decreases-feed_fields
decreases-feed_fields g l = 3 * fields_size (field_trees l.fields.now.entries) + 3

abbrev pub invariant-feed_elements-loop-element : goal.invariant-feed_elements-loop-element
invariant-feed_elements-loop-element g l =
    (values_size (value_trees (drop l.element-index l.element-items)) ≤ values_size (value_trees l.elements.items)) ×
    (fold g.H.Hasher.write l.state (values_hash (value_trees (drop l.element-index l.element-items)))
    ≡ fold g.H.Hasher.write l.initial.state (values_hash (value_trees l.elements.items)))

abbrev pub invariant-feed_fields-loop-key : goal.invariant-feed_fields-loop-key
invariant-feed_fields-loop-key g l =
    (fields_size (field_trees l.key-iterator) ≤ fields_size (field_trees l.fields.entries)) ×
    (fold g.H.Hasher.write l.state (fields_hash (field_trees l.key-iterator))
    ≡ fold g.H.Hasher.write l.initial.state (fields_hash (field_trees l.fields.entries)))
