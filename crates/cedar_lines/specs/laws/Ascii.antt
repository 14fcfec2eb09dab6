-- `is_ascii` as a test of each byte.
use Rattle.std.proofs.Common.{◌≡◌, ℕ, zero, suc, ◌<◌, List, [], ◌∷◌, get_or, Bool, true, false, ◌&&◌, refl, sym, arith}
use Rattle.std.proofs.Common.{MatchBool}
use Rattle.std.proofs.lemmas.Bool.{false_from_ne_true}
use Rattle.std.specs.Cmp.{first_so, second_so}
use Rattle.std.specs.Str.{IsAscii, IsNotAscii}
use borrow.Author.Tests.{ltb-true}
use Rattle.std.proofs.lemmas.Bool.Decides.{nat_tests}
use Rattle.cedar_ids.specs.Escape.{is_ascii, is_ascii_byte}

reads : (d : List ℕ) → is_ascii d ≡ true → (i : ℕ) → get_or d i 0 < 128
reads [] h i = omega arith
reads (c ∷ cs) h zero = ltb-true c 128 (first_so (is_ascii_byte c) (is_ascii cs) h)
reads (c ∷ cs) h (suc i) = reads cs (second_so (is_ascii_byte c) (is_ascii cs) h) i

both : (a b : Bool) → a ≡ true → b ≡ true → (a && b) ≡ true
both a b p q = rw (p, q) refl

small : (c : ℕ) → c < 128 → is_ascii_byte c ≡ true
small c h = grind (arith, nat_tests)

all : (d : List ℕ) → IsAscii d → is_ascii d ≡ true
all [] h = refl
all (c ∷ cs) h = both _ _ (small c (h 0)) (all cs (λ i. h (suc i)))

pub is_ascii-from_cases : (r : Bool) (d : List ℕ) → MatchBool r (IsAscii d) (IsNotAscii d) → r ≡ is_ascii d
is_ascii-from_cases true d h = sym (all d h)
is_ascii-from_cases false d h = sym (false_from_ne_true (is_ascii d) (λ e. omega (arith, h.1, reads d e h.0)))
