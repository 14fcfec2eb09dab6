-- The table of escapes: how the characters of an eid are printed.
use Rattle.std.specs.Prelude.{ℕ, List, [], ◌∷◌, ◌++◌, Bool, Option, Some, None, false, if◌then◌else◌, ◌==◌, nat_lt}
use Rattle.std.specs.Prelude.{◌||◌, ◌&&◌, not, nat_le, codes}
use Rattle.std.specs.List.{flat_map, list_all}
use Rattle.std.specs.Fmt.{digits}

-- The escape of an ASCII character. For example, a line feed is written `\n` and the byte 1 is written `\u{1}`.
abbrev pub escape : ℕ → List ℕ
escape c =
    if c == 0 then codes "\\0"
    else (if c == 9 then codes "\\t"
    else (if c == 13 then codes "\\r"
    else (if c == 10 then codes "\\n"
    else (if c == 39 then codes "\\'"
    else (if c == 34 then codes "\\\""
    else (if c == 92 then codes "\\\\"
    else (if nat_lt c 32 || (c == 127) then codes "\\u{" ++ (digits 16 false c ++ codes "}")
    else c ∷ [])))))))

-- The escaped form of an ASCII text: the escapes of its characters, one after another.
abbrev pub escaped : List ℕ → List ℕ
escaped text = flat_map escape text

-- Whether a character is ASCII.
abbrev pub is_ascii_byte : ℕ → Bool
is_ascii_byte c = nat_lt c 128

-- Whether every character of a text is ASCII.
abbrev pub is_ascii : List ℕ → Bool
is_ascii text = list_all is_ascii_byte text

-- Whether an ASCII character is its own escape: not a control character, not a quote and not a backslash.
abbrev pub is_extra_escape_byte : ℕ → Bool
is_extra_escape_byte c = nat_le 32 c && nat_lt c 127 && not (c == 39) && not (c == 34) && not (c == 92)

-- Whether every character of a text is an ASCII character that is its own escape.
abbrev pub is_extra_escape : List ℕ → Bool
is_extra_escape text = list_all is_extra_escape_byte text

-- The specified output of printing a text: its escaped form if it is ASCII, else unspecified.
abbrev pub escaped_output : List ℕ → Option (List ℕ)
escaped_output text = if is_ascii text then Some (escaped text) else None
