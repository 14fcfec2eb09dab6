-- The equality, hash and texts of variables.
use Rattle.std.specs.Prelude.{ℕ, List, Bool, nat_eq, codes}
use Rattle.std.specs.Ordering.{on}
use Rattle.std.specs.Hash as fed
use Rattle.cedar_terms.specs.declared.var.Var.{Var}
use Rattle.cedar_terms.specs.declared.var.Var.TheVariants.{Principal, Action, Resource, Context}

-- The index of a variable.
abbrev pub var_index : Var → ℕ
var_index Principal = 0
var_index Action = 1
var_index Resource = 2
var_index Context = 3

-- The result of `==` on two variables.
abbrev pub same_var : Var → Var → Bool
same_var = on var_index nat_eq

-- The input that a variable feeds to a hasher.
abbrev pub var_hash : Var → List (List ℕ)
var_hash v = fed.u8 (var_index v)

-- The printed text of a variable.
abbrev pub var_text : Var → List ℕ
var_text Principal = codes "principal"
var_text Action = codes "action"
var_text Resource = codes "resource"
var_text Context = codes "context"
