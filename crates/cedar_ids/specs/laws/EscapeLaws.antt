-- Decoding an escaped text returns the original text.
use Rattle.std.proofs.Common.{◌≡◌, ◌≢◌, ℕ, zero, suc, ◌<◌, List, [], ◌∷◌, ◌++◌, Bool, true, false, ◌&&◌, refl, sym, ap}
use Rattle.std.proofs.Common.{◌∙◌, arith, append_assoc, inl, inr, Some}
use Rattle.std.proofs.lemmas.Bool.Decides.{eqb_tells}
use borrow.Author.Tests.{ltb-true}
use Rattle.std.specs.Cmp.{first_so, second_so}
use Rattle.std.specs.Str.{bytes_eq}
use Rattle.std.proofs.lemmas.Slice.Eq.{bytes_eq-Decides}
use Rattle.std.specs.Fmt.{digits}
use Rattle.cedar_ids.specs.declared.decode.Scan.{Scan}
use Rattle.cedar_ids.specs.declared.decode.Scan.TheVariants.{Plain, Slash, Digits}
use Rattle.cedar_ids.specs.Escape.{escape, escaped, is_ascii, is_ascii_byte}
use Rattle.cedar_ids.specs.laws.Decode.{next_scan, emits, decode_from, decode, eid_of}

-- The state of the decoder after these bytes.
scan_after : Scan → List ℕ → Scan
scan_after s [] = s
scan_after s (b ∷ bs) = scan_after (next_scan s b) bs

decode_from-append : (s : Scan) (xs ys : List ℕ) → decode_from s (xs ++ ys)
    ≡ decode_from s xs ++ decode_from (scan_after s xs) ys
unfolding decode_from scan_after
decode_from-append s [] ys = refl
decode_from-append s (b ∷ xs) ys = ap (λ z. emits s b ++ z) (decode_from-append (next_scan s b) xs ys)
    ∙ sym (append_assoc (emits s b) _ _)

-- Whether the decoder is outside an escape.
is_outside_escapes : Scan → Bool
is_outside_escapes Plain = true
is_outside_escapes Slash = false
is_outside_escapes (Digits n) = false

plain_is : (s : Scan) → is_outside_escapes s ≡ true → s ≡ Plain
unfolding is_outside_escapes
plain_is Plain e = refl
plain_is Slash e = absurd (cc)
plain_is (Digits n) e = absurd (cc)

-- Whether the escape of `c` decodes to `c` and leaves the decoder outside an escape.
reads_back : ℕ → Bool
reads_back c = bytes_eq (decode_from Plain (escape c)) (c ∷ []) && is_outside_escapes (scan_after Plain (escape c))

unfoldable pub all_below : (ℕ → Bool) → ℕ → Bool
all_below p zero = true
all_below p (suc n) = p n && all_below p n

pub below_at : (p : ℕ → Bool) (n c : ℕ) → all_below p n ≡ true → c < n → p c ≡ true
unfolding all_below
below_at p zero c e l = absurd (omega arith)
below_at p (suc n) c e l =
    elim (eqb_tells c n) as (λ _. p c ≡ true) [
      | inl w ↦ ap p w.1 ∙ first_so (p n) (all_below p n) e
      | inr w ↦ let ne : c ≢ n = w.1 in below_at p n c (second_so (p n) (all_below p n) e) (omega arith)
    ]

-- `reads_back` is true of every ASCII character.
ascii_reads_back : all_below reads_back 128 ≡ true
unfolding all_below reads_back is_outside_escapes scan_after decode_from digits
ascii_reads_back = refl

escape_back : (c : ℕ) → c < 128 → (decode_from Plain (escape c) ≡ c ∷ []) × (scan_after Plain (escape c) ≡ Plain)
unfolding reads_back
escape_back c l =
    let e = below_at reads_back 128 c ascii_reads_back l in (
      (bytes_eq-Decides (decode_from Plain (escape c)) (c ∷ [])).0
          (first_so (bytes_eq (decode_from Plain (escape c)) (c ∷ []))
          (is_outside_escapes (scan_after Plain (escape c))) e),
      plain_is _ (second_so (bytes_eq (decode_from Plain (escape c)) (c ∷ []))
          (is_outside_escapes (scan_after Plain (escape c))) e),
    )

below : (c : ℕ) → is_ascii_byte c ≡ true → c < 128
below c h = ltb-true c 128 h

-- The escaped form of an ASCII text decodes to that text.
decode_escaped : (e : List ℕ) → is_ascii e ≡ true → decode_from Plain (escaped e) ≡ e
unfolding decode_from
decode_escaped [] h = refl
decode_escaped (c ∷ cs) h =
    let small : c < 128 = below c (first_so (is_ascii_byte c) (is_ascii cs) h) in
    let p = escape_back c small in
    decode_from-append Plain (escape c) (escaped cs)
    ∙ ap (λ z. z ++ decode_from (scan_after Plain (escape c)) (escaped cs)) p.0
    ∙ ap (λ s. c ∷ decode_from s (escaped cs)) p.1
    ∙ ap (λ z. c ∷ z) (decode_escaped cs (second_so (is_ascii_byte c) (is_ascii cs) h))

pub decode-escaped : (e : List ℕ) → is_ascii e ≡ true → decode (escaped e) ≡ e
unfolding decode
decode-escaped e h = decode_escaped e h

-- The eid with the escaped form of an ASCII text is that text.
pub eid_of-escaped : (e : List ℕ) → is_ascii e ≡ true → eid_of (escaped e) ≡ Some e
unfolding eid_of
eid_of-escaped e h =
    let d = decode-escaped e h in
    rw (d, h, (bytes_eq-Decides (escaped e) (escaped e)).1 refl) refl
