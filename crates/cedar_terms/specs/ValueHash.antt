-- The input that values feed to a hasher.
use Rattle.std.specs.Prelude.{ℕ, List, ◌++◌}
use Rattle.std.specs.Hash as fed
use Rattle.cedar_ids.specs.Name.{NameParts, name_hash_input}
use Rattle.cedar_ids.specs.Uid.{uid_hash_input}
use Rattle.cedar_terms.specs.LiteralTree.{LiteralTree, bool_literal, long_literal, string_literal, uid_literal}
use Rattle.cedar_terms.specs.ValueTree.{ValueTree, literal_value, set_value, record_value, extension_value, ValueTrees}
use Rattle.cedar_terms.specs.ValueTree.{no_values, value_then, FieldTrees, no_fields, field_then}

-- The input of a literal: the index of its kind, then its content.
abbrev pub literal_hash : LiteralTree → List (List ℕ)
literal_hash (bool_literal b) = fed.u8 0 ++ fed.bool b
literal_hash (long_literal n) = fed.u8 1 ++ fed.i64 n
literal_hash (string_literal s) = fed.u8 2 ++ fed.str s
literal_hash (uid_literal u) = fed.u8 3 ++ uid_hash_input u

-- The input of an extension value: its function, then its argument.
abbrev pub extension_hash : NameParts → List ℕ → List (List ℕ)
extension_hash f a = name_hash_input f ++ fed.str a

-- The input of a value: the index of its kind, then its content.
abbrev mutual
  pub value_hash : ValueTree → List (List ℕ)
  value_hash (literal_value l) = fed.u8 0 ++ literal_hash l
  value_hash (set_value vs) = fed.u8 1 ++ values_hash vs
  value_hash (record_value fs) = fed.u8 2 ++ fields_hash fs
  value_hash (extension_value f a) = fed.u8 3 ++ extension_hash f a

  -- The input of a list of values: the values in order, then an end mark.
  pub values_hash : ValueTrees → List (List ℕ)
  values_hash no_values = fed.u8 0
  values_hash (value_then v vs) = value_hash v ++ values_hash vs

  -- The input of a record: its keys and values in order, then an end mark.
  pub fields_hash : FieldTrees → List (List ℕ)
  fields_hash no_fields = fed.u8 0
  fields_hash (field_then k v fs) = (fed.str k ++ value_hash v) ++ fields_hash fs
