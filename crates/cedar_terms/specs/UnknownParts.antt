-- An unknown as callers see it.
use Rattle.std.specs.Prelude.{ℕ, List, Bool, Option, Some, None, nat_eq, ◌++◌}
use Rattle.std.specs.Option.{option_eq}
use Rattle.std.specs.Ordering.{on, eq_of_both}
use Rattle.std.specs.Cmp.Lexicographic.{pointwise}
use Rattle.std.specs.Hash as fed
use Rattle.cedar_ids.specs.Name.{NameParts, name_eq, name_hash_input}

-- The parts of an unknown: the bytes of its name, and the name of its entity type, if it is annotated.
pub record UnknownParts : Type 0 where
  pub name : List ℕ
  pub annotation : Option NameParts

-- The name of an unknown.
abbrev pub unknown_name : UnknownParts → List ℕ
unknown_name u = u.name

-- The annotation of an unknown.
abbrev pub unknown_annotation : UnknownParts → Option NameParts
unknown_annotation u = u.annotation

-- The result of `==` on two unknowns.
abbrev pub same_unknown : UnknownParts → UnknownParts → Bool
same_unknown = eq_of_both (on unknown_name (pointwise nat_eq)) (on unknown_annotation (option_eq name_eq))

-- The input that an annotation feeds to a hasher.
abbrev pub annotation_hash : Option NameParts → List (List ℕ)
annotation_hash None = fed.u8 0
annotation_hash (Some n) = fed.u8 1 ++ name_hash_input n

-- The input that an unknown feeds to a hasher.
abbrev pub unknown_hash : UnknownParts → List (List ℕ)
unknown_hash u = fed.str u.name ++ annotation_hash u.annotation
