-- Lookups in records, and the record and the set that a list creates.
use Rattle.std.specs.Prelude.{◌≡◌, ℕ, List, [], ◌∷◌, Option, Some, None, if◌then◌else◌, Contains}
use Rattle.std.specs.Option.{option_or}
use Rattle.std.specs.Str.{bytes_eq}
use Rattle.std.specs.Ordering.{nat_cmp}
use Rattle.std.specs.Cmp.Lexicographic.{slice_cmp}
use Rattle.std.specs.List.Sorted.{IsStrictlySortedBy}
use Rattle.cedar_terms.specs.ValueTree.{ValueTree, set_value, record_value, value_trees, FieldTrees, no_fields}
use Rattle.cedar_terms.specs.ValueTree.{field_then, value_cmp}

-- The value at a key of a record, if there is one.
abbrev pub field_at : List ℕ → FieldTrees → Option ValueTree
field_at key no_fields = None
field_at key (field_then k v fs) = if bytes_eq k key then Some v else field_at key fs

-- The keys of a record, in order.
abbrev pub field_keys : FieldTrees → List (List ℕ)
field_keys no_fields = []
field_keys (field_then k v fs) = k ∷ field_keys fs

-- The value of the last pair with this key, if there is one.
abbrev pub last_at : List ℕ → List (List ℕ × ValueTree) → Option ValueTree
last_at key [] = None
last_at key (p ∷ ps) = option_or (last_at key ps) (if bytes_eq p.0 key then Some p.1 else None)

-- Whether `v` is the record of the pairs. Its keys ascend by bytes. At each key it has the value of the last pair with
-- that key.
pub record IsRecordOf (pairs : List (List ℕ × ValueTree)) (v : ValueTree) : Type 0 where
  pub fields : FieldTrees
  pub is : v ≡ record_value fields
  pub ascending : IsStrictlySortedBy (slice_cmp nat_cmp) (field_keys fields)
  pub last : (key : List ℕ) → field_at key fields ≡ last_at key pairs

-- Whether `v` is the set of the values. Its elements ascend strictly, and are exactly the elements of `values`.
pub record IsSetOf (values : List ValueTree) (v : ValueTree) : Type 0 where
  pub elements : List ValueTree
  pub is : v ≡ set_value (value_trees elements)
  pub ascending : IsStrictlySortedBy value_cmp elements
  pub has : (w : ValueTree) → Contains values w → Contains elements w
  pub only : (w : ValueTree) → Contains elements w → Contains values w
