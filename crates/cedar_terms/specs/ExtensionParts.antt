-- An extension value as callers see it.
use Rattle.std.specs.Prelude.{ℕ, List, Bool, nat_eq}
use Rattle.std.specs.Ordering.{on, eq_of_both}
use Rattle.std.specs.Cmp.Lexicographic.{pointwise}
use Rattle.cedar_ids.specs.Name.{NameParts, name_eq}
use Rattle.cedar_terms.specs.ValueHash.{extension_hash}

-- The parts of an extension value: the function, and the bytes of its argument.
pub record ExtensionParts : Type 0 where
  pub func : NameParts
  pub arg : List ℕ

-- The function of an extension value.
abbrev pub func_part : ExtensionParts → NameParts
func_part x = x.func

-- The argument of an extension value.
abbrev pub arg_part : ExtensionParts → List ℕ
arg_part x = x.arg

-- The result of `==` on two extension values.
abbrev pub same_extension : ExtensionParts → ExtensionParts → Bool
same_extension = eq_of_both (on func_part name_eq) (on arg_part (pointwise nat_eq))

-- The input that an extension value feeds to a hasher.
abbrev pub extension_parts_hash : ExtensionParts → List (List ℕ)
extension_parts_hash x = extension_hash x.func x.arg
