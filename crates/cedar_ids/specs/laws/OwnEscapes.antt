-- Laws of a text that is its own escaped form.
use Rattle.std.proofs.Common.{◌≡◌, ℕ, List, [], ◌∷◌, ◌++◌, true, refl, sym, ap, ◌∙◌, arith, Some}
use Rattle.std.proofs.lemmas.Bool.Decides.{nat_tests}
use Rattle.std.proofs.lemmas.Grind.{common_steps}
use Rattle.std.specs.Cmp.{first_so, second_so}
use Rattle.cedar_ids.specs.Escape.{escape, escaped, escaped_output, is_ascii, is_ascii_byte, is_extra_escape}
use Rattle.cedar_ids.specs.Escape.{is_extra_escape_byte}
use Rattle.cedar_ids.specs.laws.Decode.{eid_of}
use Rattle.cedar_ids.specs.laws.Eids.{ascii_text}
use Rattle.cedar_ids.specs.laws.EscapeLaws.{eid_of-escaped}

own_byte_is_ascii : (c : ℕ) → is_extra_escape_byte c ≡ true → is_ascii_byte c ≡ true
own_byte_is_ascii c h = grind (arith, common_steps, nat_tests)

own_byte_escape : (c : ℕ) → is_extra_escape_byte c ≡ true → escape c ≡ c ∷ []
own_byte_escape c h = grind (arith, common_steps, nat_tests)

-- A text that is its own escape is ASCII.
pub own_escape_is_ascii : (t : List ℕ) → is_extra_escape t ≡ true → is_ascii t ≡ true
own_escape_is_ascii [] h = refl
own_escape_is_ascii (c ∷ cs) h =
    let byte = own_byte_is_ascii c (first_so (is_extra_escape_byte c) (is_extra_escape cs) h) in
    let rest = own_escape_is_ascii cs (second_so (is_extra_escape_byte c) (is_extra_escape cs) h) in
    rw (byte, rest) refl

-- The escaped form of such a text is the text.
pub own_escape_escaped : (t : List ℕ) → is_extra_escape t ≡ true → escaped t ≡ t
own_escape_escaped [] h = refl
own_escape_escaped (c ∷ cs) h =
    ap (λ z. z ++ escaped cs) (own_byte_escape c (first_so (is_extra_escape_byte c) (is_extra_escape cs) h))
    ∙ ap (λ z. c ∷ z) (own_escape_escaped cs (second_so (is_extra_escape_byte c) (is_extra_escape cs) h))

-- The eid parsed from such a text is the text.
pub own_escape_eid : (t : List ℕ) → is_extra_escape t ≡ true → ascii_text t ≡ eid_of t
own_escape_eid t h =
    let a = own_escape_is_ascii t h in
    rw a (sym (ap eid_of (sym (own_escape_escaped t h)) ∙ eid_of-escaped t a))

-- The printed form of such a text is the text.
pub own_escape_output : (t : List ℕ) → is_extra_escape t ≡ true → escaped_output t ≡ Some t
own_escape_output t h = rw (own_escape_is_ascii t h) (ap (λ z. Some z) (own_escape_escaped t h))
