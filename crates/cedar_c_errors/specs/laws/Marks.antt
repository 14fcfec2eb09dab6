-- The positions of slots in a text, byte by byte. `Named` states the result.
use Rattle.std.specs.Prelude.{ℕ, zero, suc, List, [], ◌∷◌, Bool, ◌&&◌, ◌==◌, nat_le, drop, if◌then◌else◌}

-- Whether a byte is a small ASCII letter.
abbrev pub is_small : ℕ → Bool
is_small c = nat_le 97 c && nat_le c 122

-- The text from its first `?` on.
unfoldable pub from_mark : List ℕ → List ℕ
from_mark [] = []
from_mark (c ∷ cs) = if c == 63 then c ∷ cs else from_mark cs

-- The text after its leading small letters.
unfoldable pub behind_letters : List ℕ → List ℕ
behind_letters [] = []
behind_letters (c ∷ cs) = if is_small c then behind_letters cs else c ∷ cs

-- The text after a mark and its letters.
abbrev pub after_slot : List ℕ → List ℕ
after_slot text = behind_letters (drop 1 text)

-- The text after that many slots.
unfoldable pub after_slots : ℕ → List ℕ → List ℕ
after_slots zero text = text
after_slots (suc k) text = after_slot (from_mark (after_slots k text))
