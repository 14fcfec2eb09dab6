-- Values and their contents as callers see them.
use Rattle.std.specs.Prelude.{ℕ, List, [], ◌∷◌, Bool, String, string_bytes, map}
use Rattle.std.specs.Ordering.{on}
use Rattle.std.specs.declared.alloc.Global.{Global}
use Rattle.cedar_terms.specs.ValueTree.{ValueTree, literal_value, set_value, record_value, extension_value, value_trees}
use Rattle.cedar_terms.specs.ValueTree.{FieldTrees, no_fields, field_then, same_value}
use Rattle.cedar_terms.specs.ValueHash.{value_hash}
use Rattle.cedar_terms.specs.Views.{literal_tree}
use Rattle.cedar_terms.specs.declared.value.ValueKind.{ValueKind}
use Rattle.cedar_terms.specs.declared.value.ValueKind.TheVariants as kinds

-- The fields of a map, with keys as their bytes.
abbrev pub field_trees : List (String Global × ValueTree) → FieldTrees
field_trees [] = no_fields
field_trees (f ∷ fs) = field_then (string_bytes f.0) f.1 (field_trees fs)

-- The value with this kind and content.
abbrev pub kind_tree : ValueKind → ValueTree
kind_tree (kinds.Lit l) = literal_value (literal_tree l)
kind_tree (kinds.Set v) = set_value (value_trees v.value.items)
kind_tree (kinds.Record m) = record_value (field_trees m.value.entries)
kind_tree (kinds.ExtensionValue x) = extension_value x.value.func x.value.arg

-- The pairs of a list, with keys as their bytes.
abbrev pub named_pairs : List (String Global × ValueTree) → List (List ℕ × ValueTree)
named_pairs ps = map (λ p. (string_bytes p.0, p.1)) ps

-- The result of `==` on the kinds of two values.
abbrev pub same_kind : ValueKind → ValueKind → Bool
same_kind = on kind_tree same_value

-- The input that the kind of a value feeds to a hasher.
abbrev pub kind_hash : ValueKind → List (List ℕ)
kind_hash k = value_hash (kind_tree k)
