-- The two halves of the text of a uid.
use Rattle.std.specs.Prelude.{◌≡◌, ◌++◌, List, ℕ, codes}
use Rattle.cedar_ids.specs.Name.{NameParts}
use Rattle.cedar_ids.specs.TextOf.{IsNameText}

-- Whether a text is a text of the name, and `::"`.
abbrev pub IsMarked : NameParts → List ℕ → Type 0
IsMarked n marked = (name : List ℕ) × IsNameText n name × (marked ≡ name ++ codes "::\"")

-- Whether a text is a text of the name, `::"`, the text `between`, and a `"`.
abbrev pub IsMadeOf : NameParts → List ℕ → List ℕ → Type 0
IsMadeOf n between text =
    (name : List ℕ) × IsNameText n name × (text ≡ name ++ (codes "::\"" ++ (between ++ codes "\"")))
