-- The printed texts of literals and values.
use Rattle.std.specs.Prelude.{ℕ, List, [], ◌++◌, Bool, true, ◌&&◌, Option, Some, None, if◌then◌else◌, codes}
use Rattle.std.specs.Fmt.{signed_decimal}
use Rattle.cedar_ids.specs.Name.{NameParts}
use Rattle.cedar_ids.specs.Escape.{escaped, is_ascii}
use Rattle.cedar_ids.specs.Printed.{printed_name, printed_uid}
use Rattle.cedar_terms.specs.LiteralTree.{LiteralTree, bool_literal, long_literal, string_literal, uid_literal}
use Rattle.cedar_terms.specs.ValueTree.{ValueTree, literal_value, set_value, record_value, extension_value, ValueTrees}
use Rattle.cedar_terms.specs.ValueTree.{no_values, value_then, FieldTrees, no_fields, field_then}

-- The escaped text between quotes.
abbrev pub quoted : List ℕ → List ℕ
quoted text = codes "\"" ++ (escaped text ++ codes "\"")

-- The text of a literal: `true` or `false`, the integer in decimal, the quoted string, or the printed uid.
abbrev pub literal_text : LiteralTree → List ℕ
literal_text (bool_literal b) = if b then codes "true" else codes "false"
literal_text (long_literal n) = signed_decimal n
literal_text (string_literal s) = quoted s
literal_text (uid_literal u) = printed_uid u

-- Whether all texts in a literal are ASCII.
abbrev pub is_ascii_literal : LiteralTree → Bool
is_ascii_literal (bool_literal b) = true
is_ascii_literal (long_literal n) = true
is_ascii_literal (string_literal s) = is_ascii s
is_ascii_literal (uid_literal u) = is_ascii u.eid

-- The specified output of printing a literal: its text if all texts in it are ASCII, else unspecified.
abbrev pub literal_output : LiteralTree → Option (List ℕ)
literal_output l = if is_ascii_literal l then Some (literal_text l) else None

-- The text of an extension value. For example, `ip("10.0.0.1")`.
abbrev pub extension_text : NameParts → List ℕ → List ℕ
extension_text f a = printed_name f ++ (codes "(\"" ++ (escaped a ++ codes "\")"))

-- The text of a value: a literal, `[V, W]`, `{"k": V, "l": W}`, or `f("text")`.
abbrev mutual
  pub value_text : ValueTree → List ℕ
  value_text (literal_value l) = literal_text l
  value_text (set_value vs) = codes "[" ++ (values_text vs ++ codes "]")
  value_text (record_value fs) = codes "{" ++ (fields_text fs ++ codes "}")
  value_text (extension_value f a) = extension_text f a

  -- The texts of the values of a list, separated by a comma and a space.
  pub values_text : ValueTrees → List ℕ
  values_text no_values = []
  values_text (value_then v vs) = value_text v ++ more_values_text vs

  -- The texts of the remaining values of a list, with a comma and a space before each.
  pub more_values_text : ValueTrees → List ℕ
  more_values_text no_values = []
  more_values_text (value_then v vs) = (codes ", " ++ value_text v) ++ more_values_text vs

  -- The keys and values of a record, separated by a comma and a space.
  pub fields_text : FieldTrees → List ℕ
  fields_text no_fields = []
  fields_text (field_then k v fs) = (quoted k ++ (codes ": " ++ value_text v)) ++ more_fields_text fs

  -- The remaining keys and values of a record, with a comma and a space before each pair.
  pub more_fields_text : FieldTrees → List ℕ
  more_fields_text no_fields = []
  more_fields_text (field_then k v fs) =
      (codes ", " ++ (quoted k ++ (codes ": " ++ value_text v))) ++ more_fields_text fs

-- Whether all texts in a value are ASCII.
abbrev mutual
  pub is_ascii_value : ValueTree → Bool
  is_ascii_value (literal_value l) = is_ascii_literal l
  is_ascii_value (set_value vs) = are_ascii_values vs
  is_ascii_value (record_value fs) = are_ascii_fields fs
  is_ascii_value (extension_value f a) = is_ascii a

  -- Whether all texts in a list of values are ASCII.
  pub are_ascii_values : ValueTrees → Bool
  are_ascii_values no_values = true
  are_ascii_values (value_then v vs) = is_ascii_value v && are_ascii_values vs

  -- Whether all keys, and all texts in the values of a record, are ASCII.
  pub are_ascii_fields : FieldTrees → Bool
  are_ascii_fields no_fields = true
  are_ascii_fields (field_then k v fs) = (is_ascii k && is_ascii_value v) && are_ascii_fields fs

-- The specified output of printing a value: its text if all texts in it are ASCII, else unspecified.
abbrev pub value_output : ValueTree → Option (List ℕ)
value_output v = if is_ascii_value v then Some (value_text v) else None
