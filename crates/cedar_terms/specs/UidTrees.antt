-- Uids in expressions and texts.
use Rattle.std.specs.Prelude.{Bool}
use Rattle.cedar_ids.specs.Escape.{is_ascii}
use Rattle.cedar_ids.specs.Uid.{UidParts}
use Rattle.cedar_terms.specs.LiteralTree.{uid_literal}
use Rattle.cedar_terms.specs.ExprTree.{ExprTree, val_node}

-- The expression of a uid literal.
abbrev pub uid_expr : UidParts → ExprTree
uid_expr u = val_node (uid_literal u)

-- Whether the eid of a uid is ASCII.
abbrev pub is_ascii_uid : UidParts → Bool
is_ascii_uid u = is_ascii u.eid
