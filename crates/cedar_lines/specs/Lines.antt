-- The bytes of an input line, and the text of an output line.
use Rattle.std.specs.Prelude.{◌≡◌, ℕ, ◌<◌, ◌≤◌, true, slice_index, List, [], ◌∷◌, ◌++◌, Bool, ◌||◌, ◌&&◌, ◌==◌, nat_le}

-- Whether a byte is a tab or a printable ASCII character.
abbrev pub is_line_byte : ℕ → Bool
is_line_byte b = (b == 9) || (nat_le 32 b && nat_le b 126)

-- Whether all bytes from one place up to another are tabs or printable ASCII characters.
abbrev pub HasLineBytesIn : List ℕ → ℕ → ℕ → Type 0
HasLineBytesIn xs from to = (k : ℕ) → from ≤ k → k < to → is_line_byte (slice_index xs k) ≡ true

-- The output line of a text: the text and a line feed.
abbrev pub written_line : List ℕ → List ℕ
written_line text = text ++ 10 ∷ []
