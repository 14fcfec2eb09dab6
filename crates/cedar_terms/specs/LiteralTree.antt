-- A literal as callers see it.
use Rattle.std.specs.Prelude.{ℕ, ℤ, List, Bool}
use Rattle.cedar_ids.specs.Uid.{UidParts, uid_cmp}
use Rattle.std.specs.declared.cmp.Ordering.{Ordering}
use Rattle.std.specs.Ordering.{nat_cmp, int_cmp, bool_cmp, eq_by_cmp}
use Rattle.std.specs.Cmp.Lexicographic.{slice_cmp}

-- A literal: a Boolean, an integer, the bytes of a string, or a uid.
pub data LiteralTree : Type 0 where
  bool_literal : Bool → LiteralTree
  long_literal : ℤ → LiteralTree
  string_literal : List ℕ → LiteralTree
  uid_literal : UidParts → LiteralTree

-- The index of a literal's kind.
abbrev pub literal_kind : LiteralTree → ℕ
literal_kind (bool_literal b) = 0
literal_kind (long_literal n) = 1
literal_kind (string_literal s) = 2
literal_kind (uid_literal u) = 3

-- The order of literals: by kind, then by content. `false` comes before `true`, integers are ordered by size, strings
-- by bytes, and uids by their order.
abbrev pub literal_cmp : LiteralTree → LiteralTree → Ordering
literal_cmp (bool_literal a) (bool_literal b) = bool_cmp a b
literal_cmp (long_literal a) (long_literal b) = int_cmp a b
literal_cmp (string_literal a) (string_literal b) = slice_cmp nat_cmp a b
literal_cmp (uid_literal a) (uid_literal b) = uid_cmp a b
literal_cmp a b = nat_cmp (literal_kind a) (literal_kind b)

-- Whether two literals are equal: whether `literal_cmp` reports `Equal`.
abbrev pub same_literal : LiteralTree → LiteralTree → Bool
same_literal = eq_by_cmp literal_cmp
