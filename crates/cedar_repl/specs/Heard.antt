-- The lines of an input of which a part was received.
use Rattle.std.specs.Prelude.{◌≡◌, ◌≢◌, ℕ, List, [], ◌∷◌, ◌++◌}
use Rattle.std.specs.List.{AllByRecursion, flat_map}

-- The completed lines, and the bytes of the incomplete line.
pub record Heard : Type 0 where
  pub lines : List (List ℕ)
  pub part : List ℕ

-- A line with its line feed.
abbrev pub ended : List ℕ → List ℕ
ended line = line ++ 10 ∷ []

-- Holds if no byte is a line feed.
abbrev pub IsUnbroken : List ℕ → Type 0
IsUnbroken bytes = AllByRecursion (λ b. b ≢ 10) bytes

-- Holds if the bytes are the completed lines, each with its line feed, followed by the incomplete line.
pub record IsHeard (bytes : List ℕ) (h : Heard) : Type 0 where
  pub whole : bytes ≡ flat_map ended h.lines ++ h.part
  pub each : AllByRecursion IsUnbroken h.lines
  pub rest : IsUnbroken h.part

-- The lines of an input that ends here. The incomplete line is the last one, unless it is empty.
abbrev pub all_lines : Heard → List (List ℕ)
all_lines h = with_last h.lines h.part where
  with_last : List (List ℕ) → List ℕ → List (List ℕ)
  with_last lines [] = lines
  with_last lines (b ∷ bs) = lines ++ (b ∷ bs) ∷ []
