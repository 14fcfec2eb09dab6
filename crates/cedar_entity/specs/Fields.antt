-- Attributes and tags: the value at each key.
use Rattle.std.specs.Prelude.{◌≡◌, ℕ, List, [], ◌∷◌, map, Option, Some, None, if◌then◌else◌, String, string_bytes}
use Rattle.std.specs.Option.{option_or}
use Rattle.std.specs.Str.{bytes_eq}
use Rattle.std.specs.Ordering.{nat_cmp}
use Rattle.std.specs.Cmp.Lexicographic.{slice_cmp}
use Rattle.std.specs.List.Sorted.{IsStrictlySortedBy}
use Rattle.std.specs.declared.alloc.Global.{Global}
use Rattle.cedar_terms.specs.declared.partial_value.PartialValue.{PartialValue}

-- A list of keys with values. A key is a list of bytes.
abbrev pub Fields : Type 0
Fields = List (List ℕ × PartialValue)

-- The value of the first pair with a key.
abbrev pub field_at : List ℕ → Fields → Option PartialValue
field_at key [] = None
field_at key (f ∷ fs) = if bytes_eq f.0 key then Some f.1 else field_at key fs

-- The value of the last pair with a key.
abbrev pub last_at : List ℕ → Fields → Option PartialValue
last_at key [] = None
last_at key (f ∷ fs) = option_or (last_at key fs) (if bytes_eq f.0 key then Some f.1 else None)

-- The keys of fields, in order.
abbrev pub field_keys : Fields → List (List ℕ)
field_keys fs = map (λ f. f.0) fs

-- Holds if the keys are in ascending byte order. Then no key occurs twice.
abbrev pub KeysAscend : Fields → Type 0
KeysAscend fs = IsStrictlySortedBy (slice_cmp nat_cmp) (field_keys fs)

-- Holds if the fields are collected from the pairs: their keys ascend, and each key has the value of the last pair with
-- the key.
pub record AreFieldsOf (pairs fields : Fields) : Type 0 where
  pub ascending : KeysAscend fields
  pub last : (key : List ℕ) → field_at key fields ≡ last_at key pairs

-- The fields of pairs of a text and a value.
abbrev pub fields_of : List (String Global × PartialValue) → Fields
fields_of ps = map (λ p. (string_bytes p.0, p.1)) ps
