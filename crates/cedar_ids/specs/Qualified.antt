-- Names in a namespace.
use Rattle.std.specs.Prelude.{ℕ, List, [], ◌∷◌, ◌++◌, Option, Some, None}
use Rattle.cedar_ids.specs.Name.{NameParts}

-- All components of a name: the path, followed by the basename.
abbrev pub all_components : NameParts → List (List ℕ)
all_components n = n.path ++ n.basename ∷ []

-- The name with this path and basename if the path is not empty. Else the name whose path is all components of the
-- namespace.
abbrev pub in_namespace : NameParts → List (List ℕ) → List ℕ → NameParts
in_namespace namespace [] basename = record { path = all_components namespace; basename = basename }
in_namespace namespace (c ∷ cs) basename = record { path = c ∷ cs; basename = basename }

-- A name inside an optional namespace. For example, `User` in the namespace `A::B` is `A::B::User`.
abbrev pub qualified : Option NameParts → NameParts → NameParts
qualified None n = n
qualified (Some namespace) n = in_namespace namespace n.path n.basename
