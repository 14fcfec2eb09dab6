-- A value as callers see it. Locations are not part of it.
use Rattle.std.specs.Prelude.{ℕ, List, [], ◌∷◌, ◌+◌, Bool}
use Rattle.std.specs.declared.cmp.Ordering.{Ordering}
use Rattle.std.specs.declared.cmp.Ordering.TheVariants.{Less, Equal, Greater}
use Rattle.std.specs.Ordering.{nat_cmp, ordering_then, eq_by_cmp}
use Rattle.std.specs.Cmp.Lexicographic.{slice_cmp}
use Rattle.cedar_ids.specs.Name.{NameParts, name_cmp}
use Rattle.cedar_terms.specs.LiteralTree.{LiteralTree, literal_cmp}

mutual
  -- A value: a literal, a set of values, a record, or an extension function with its argument.
  pub data ValueTree : Type 0 where
    literal_value : LiteralTree → ValueTree
    set_value : ValueTrees → ValueTree
    record_value : FieldTrees → ValueTree
    extension_value : NameParts → List ℕ → ValueTree

  -- A list of values.
  pub data ValueTrees : Type 0 where
    no_values : ValueTrees
    value_then : ValueTree → ValueTrees → ValueTrees

  -- A list of keys and values.
  pub data FieldTrees : Type 0 where
    no_fields : FieldTrees
    field_then : List ℕ → ValueTree → FieldTrees → FieldTrees

-- The list of values with these elements.
abbrev pub value_trees : List ValueTree → ValueTrees
value_trees [] = no_values
value_trees (v ∷ vs) = value_then v (value_trees vs)

-- The index of a value's kind.
abbrev pub value_kind : ValueTree → ℕ
value_kind (literal_value l) = 0
value_kind (set_value vs) = 1
value_kind (record_value fs) = 2
value_kind (extension_value f a) = 3

-- The order of values: by kind, then by content. Literals have their order, sets compare as lists, and records as lists
-- of pairs. Extension values compare by function, then by argument.
abbrev mutual
  pub value_cmp : ValueTree → ValueTree → Ordering
  value_cmp (literal_value a) (literal_value b) = literal_cmp a b
  value_cmp (set_value a) (set_value b) = values_cmp a b
  value_cmp (record_value a) (record_value b) = fields_cmp a b
  value_cmp (extension_value f a) (extension_value g b) = ordering_then (name_cmp f g) (slice_cmp nat_cmp a b)
  value_cmp a b = nat_cmp (value_kind a) (value_kind b)

  -- The order of lists of values: the first pair of different elements decides.
  pub values_cmp : ValueTrees → ValueTrees → Ordering
  values_cmp no_values no_values = Equal
  values_cmp no_values (value_then w ws) = Less
  values_cmp (value_then v vs) no_values = Greater
  values_cmp (value_then v vs) (value_then w ws) = ordering_then (value_cmp v w) (values_cmp vs ws)

  -- The order of lists of fields: the first pair of different fields decides. Fields compare by key, then by value.
  pub fields_cmp : FieldTrees → FieldTrees → Ordering
  fields_cmp no_fields no_fields = Equal
  fields_cmp no_fields (field_then l w ws) = Less
  fields_cmp (field_then k v vs) no_fields = Greater
  fields_cmp (field_then k v vs) (field_then l w ws) =
      ordering_then (ordering_then (slice_cmp nat_cmp k l) (value_cmp v w)) (fields_cmp vs ws)

-- Whether two values are equal: whether `value_cmp` reports `Equal`.
abbrev pub same_value : ValueTree → ValueTree → Bool
same_value = eq_by_cmp value_cmp

-- The number of values inside a value, including itself.
abbrev mutual
  pub value_size : ValueTree → ℕ
  value_size (literal_value l) = 1
  value_size (set_value vs) = 1 + values_size vs
  value_size (record_value fs) = 1 + fields_size fs
  value_size (extension_value f a) = 1

  -- The number of values inside a list of values.
  pub values_size : ValueTrees → ℕ
  values_size no_values = 0
  values_size (value_then v vs) = value_size v + values_size vs

  -- The number of values inside a record.
  pub fields_size : FieldTrees → ℕ
  fields_size no_fields = 0
  fields_size (field_then k v fs) = value_size v + fields_size fs
