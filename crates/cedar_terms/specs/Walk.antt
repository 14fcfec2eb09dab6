-- The traversal of an expression, and what it finds.
use Rattle.std.specs.Prelude.{List, [], ◌∷◌, ◌++◌, Option, Some, None, Bool, not, ◌||◌, codes}
use Rattle.std.specs.List.{filter_map, find}
use Rattle.std.specs.Str.{bytes_eq}
use Rattle.cedar_ids.specs.Name.{NameParts}
use Rattle.cedar_ids.specs.Printed.{printed_name}
use Rattle.cedar_terms.specs.UnknownParts.{UnknownParts}
use Rattle.cedar_terms.specs.ExprTree.{ExprTree, val_node, var_node, slot_node, unknown_node, set_node, call_node}
use Rattle.cedar_terms.specs.ExprTree.{not_node, binary_node, is_node, ExprTrees, no_exprs, expr_then}
use Rattle.cedar_terms.specs.declared.slot.SlotId.{SlotId}

-- The nodes of an expression. A node comes before its descendants. A later child comes, with its descendants, before an
-- earlier child.
abbrev mutual
  pub walk : ExprTree → List ExprTree
  walk (val_node l) = val_node l ∷ []
  walk (var_node v) = var_node v ∷ []
  walk (slot_node s) = slot_node s ∷ []
  walk (unknown_node u) = unknown_node u ∷ []
  walk (set_node es) = set_node es ∷ walk_back es
  walk (call_node f es) = call_node f es ∷ walk_back es
  walk (not_node e) = not_node e ∷ walk e
  walk (binary_node o x y) = binary_node o x y ∷ (walk y ++ walk x)
  walk (is_node e t) = is_node e t ∷ walk e

  -- The nodes of a list of expressions, from the last expression to the first.
  pub walk_back : ExprTrees → List ExprTree
  walk_back no_exprs = []
  walk_back (expr_then e es) = walk_back es ++ walk e

-- The slot of a node, if the node is a slot.
abbrev pub slot_of : ExprTree → Option SlotId
slot_of (slot_node s) = Some s
slot_of e = None

-- The slots of an expression, in the order of `walk` and with repetitions.
abbrev pub slots_of : ExprTree → List SlotId
slots_of e = filter_map slot_of (walk e)

-- The unknown of a node, if the node is an unknown.
abbrev pub unknown_of : ExprTree → Option UnknownParts
unknown_of (unknown_node u) = Some u
unknown_of e = None

-- The unknowns of an expression, in the order of `walk` and with repetitions.
abbrev pub unknowns_of : ExprTree → List UnknownParts
unknowns_of e = filter_map unknown_of (walk e)

-- The function that a node calls, if the node is a call.
abbrev pub function_of : ExprTree → Option NameParts
function_of (call_node f es) = Some f
function_of e = None

-- Whether a function is known: `ip`, `decimal`, `datetime` or `duration`.
abbrev pub is_known_function : NameParts → Bool
is_known_function f =
    bytes_eq (printed_name f) (codes "ip") || bytes_eq (printed_name f) (codes "decimal")
    || bytes_eq (printed_name f) (codes "datetime") || bytes_eq (printed_name f) (codes "duration")

-- Whether a function is not known.
abbrev pub is_unknown_function : NameParts → Bool
is_unknown_function f = not (is_known_function f)

-- The first function in the order of `walk` that is not known, if there is one.
abbrev pub first_unknown_function : ExprTree → Option NameParts
first_unknown_function e = find is_unknown_function (filter_map function_of (walk e))
