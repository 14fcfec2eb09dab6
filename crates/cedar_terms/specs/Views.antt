-- Literals as callers see them.
use Rattle.std.specs.Prelude.{string_bytes}
use Rattle.cedar_ids.specs.UidOf.{uid_parts}
use Rattle.cedar_terms.specs.LiteralTree.{LiteralTree, bool_literal, long_literal, string_literal, uid_literal}
use Rattle.cedar_terms.specs.declared.literal.Literal.{Literal}
use Rattle.cedar_terms.specs.declared.literal.Literal.TheVariants as literals

-- The literal as callers see it.
abbrev pub literal_tree : Literal → LiteralTree
literal_tree (literals.Bool b) = bool_literal b
literal_tree (literals.Long n) = long_literal n
literal_tree (literals.String s) = string_literal (string_bytes s)
literal_tree (literals.EntityUID u) = uid_literal (uid_parts u.value)
