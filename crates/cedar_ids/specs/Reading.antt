-- The grammar of identifiers.
use Rattle.std.specs.Prelude.{ℕ, List, [], ◌∷◌, Bool, false, not, ◌&&◌, ◌||◌, ◌==◌, nat_le, codes}
use Rattle.std.specs.Str.{bytes_eq}
use Rattle.std.specs.List.{list_all}

-- Whether a byte is an ASCII letter or `_`.
abbrev pub is_id_start : ℕ → Bool
is_id_start b = (nat_le 65 b && nat_le b 90) || ((nat_le 97 b && nat_le b 122) || (b == 95))

-- Whether a byte is an ASCII letter, a digit or `_`.
abbrev pub is_id_part : ℕ → Bool
is_id_part b = is_id_start b || (nat_le 48 b && nat_le b 57)

-- Whether a text is one of the reserved words.
abbrev pub is_reserved : List ℕ → Bool
is_reserved text =
    bytes_eq text (codes "true") || (bytes_eq text (codes "false")
    || (bytes_eq text (codes "if") || (bytes_eq text (codes "then") || (bytes_eq text (codes "else")
    || (bytes_eq text (codes "in") || (bytes_eq text (codes "is")
    || (bytes_eq text (codes "like") || (bytes_eq text (codes "has")
    || bytes_eq text (codes "__cedar")))))))))

-- Whether a text is an identifier: a letter or `_`, followed by letters, digits and `_`.
abbrev pub is_identifier : List ℕ → Bool
is_identifier [] = false
is_identifier (b ∷ bs) = is_id_start b && list_all is_id_part bs

-- Whether a text is an identifier that is not a reserved word.
unfoldable pub is_id : List ℕ → Bool
is_id text = is_identifier text && not (is_reserved text)
