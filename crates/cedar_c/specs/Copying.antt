-- Copying of results to a caller.
use Rattle.std.specs.Prelude.{◌≡◌, ◌-◌, ◌++◌, ℕ, List, length, take, drop, min}

-- The number of copied items: the number of items from a position on, or the length of the output if that is less. For
-- example, with 5 items, position 3 and an output of length 10 it is 2.
abbrev pub room : {X : Type 0} → List X → ℕ → List X → ℕ
room whole from old = min (length old) (length whole - from)

-- Holds if `told` is the length of the whole, and the items from position `from` on were copied to the output, as many
-- as fit. The rest of the output is unchanged.
abbrev pub CopiesOut : {X : Type 0} → List X → ℕ → List X → ℕ → List X → Type 0
CopiesOut whole from old told new =
    (told ≡ length whole) × (new ≡ take (room whole from old) (drop from whole) ++ drop (room whole from old) old)
