-- Parsing of a name component by component, as in the code. `Reads.antt` specifies the results.
use Rattle.std.specs.Prelude.{ℕ, List, [], ◌∷◌, ◌++◌, ◌&&◌, Option, Some, None, if◌then◌else◌, ◌==◌}
use Rattle.cedar_ids.specs.Name.{NameParts}
use Rattle.cedar_ids.specs.Reading.{is_id}

-- Puts `b` at the front of the first component.
abbrev pub onto_first : ℕ → List (List ℕ) → List (List ℕ)
onto_first b [] = (b ∷ []) ∷ []
onto_first b (c ∷ cs) = (b ∷ c) ∷ cs

-- The components of a text: the parts between the marks `::`.
unfoldable pub components : List ℕ → List (List ℕ)
components [] = [] ∷ []
components (b ∷ []) = (b ∷ []) ∷ []
components (b ∷ c ∷ bs) = if (b == 58) && (c == 58) then [] ∷ components bs else onto_first b (components (c ∷ bs))

-- The name with the path read so far and the components after it, if all these are ids.
unfoldable pub name_of_components : List (List ℕ) → List (List ℕ) → Option NameParts
name_of_components path [] = None
name_of_components path (c ∷ []) = if is_id c then Some (record { path = path; basename = c }) else None
name_of_components path (c ∷ d ∷ cs) = if is_id c then name_of_components (path ++ c ∷ []) (d ∷ cs) else None

-- The name with this text, if there is one.
unfoldable pub name_of : List ℕ → Option NameParts
name_of text = name_of_components [] (components text)
