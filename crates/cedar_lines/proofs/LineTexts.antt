-- Valid bytes of a line are ASCII and so a text.
use Rattle.std.specs.Prelude.{Option, None, Some, IfSome}
use Rattle.std.proofs.Common.{◌≡◌, ℕ, zero, suc, ◌<◌, List, [], ◌∷◌, true, arith, length, refl}
use Rattle.std.specs.Cmp.{first_so, second_so}
use Rattle.std.specs.List.{list_all}
use Rattle.std.specs.Str.{IsUtf8, IsAscii}
use Rattle.std.proofs.lemmas.Bool.Decides.{nat_tests}
use Rattle.std.proofs.lemmas.Str.{IsUtf8-from_ascii}
use Rattle.cedar_lines.specs.Lines.{is_line_byte, HasLineBytesIn}

small : (c : ℕ) → is_line_byte c ≡ true → c < 128
small c h = grind (arith, nat_tests)

pub line_is_ascii : (d : List ℕ) → list_all is_line_byte d ≡ true → IsAscii d
line_is_ascii [] h i = omega arith
line_is_ascii (c ∷ cs) h zero = small c (first_so (is_line_byte c) (list_all is_line_byte cs) h)
line_is_ascii (c ∷ cs) h (suc i) = line_is_ascii cs (second_so (is_line_byte c) (list_all is_line_byte cs) h) i

pub text_of_line : (d : List ℕ) → list_all is_line_byte d ≡ true → IsUtf8 d
text_of_line d h = IsUtf8-from_ascii d (line_is_ascii d h)

-- If each byte is valid, the line passes the test of all bytes.
pub list_all-from_line_bytes : (d : List ℕ) → HasLineBytesIn d 0 (length d) → list_all is_line_byte d ≡ true
list_all-from_line_bytes [] h = refl
list_all-from_line_bytes (c ∷ cs) h =
    rw (h 0 (omega arith) (omega arith), list_all-from_line_bytes cs (λ k low high. h (suc k) (omega arith) (omega arith))) refl

-- If there is a result, each byte of the line is valid.
pub readable-if_some : {A : Type 0} (o : Option A) (d : List ℕ) → IfSome o (λ _. HasLineBytesIn d 0 (length d))
    → IfSome o (λ _. list_all is_line_byte d ≡ true)
readable-if_some None d h = h
readable-if_some (Some x) d h = list_all-from_line_bytes d h
