-- The numbers that are tried, as tens and last digit, and the texts of their ids.
use Rattle.std.specs.Prelude.{◌≡◌, ℕ, ◌+◌, ◌-◌, ◌*◌, ◌/◌, ◌%◌, ◌<◌, List, [], ◌∷◌, ◌++◌, codes, refl, suc, zero, false}
use Rattle.std.proofs.Common.{sym, ap, ◌∙◌, arith}
use Rattle.std.specs.Fmt.{digit_glyph, digits_onto}
use Rattle.std.specs.String.{string_bytes}
use Rattle.cedar_policy_merge.specs.Fresh.{numeral, numbered}
use Rattle.cedar_policy_merge.specs.declared.fresh.Trial.{Trial}
use Rattle.cedar_policy_merge.specs.laws.Numerals.{IsZero, yes, no, is_zero, last_digit, more_digits, same_digits}
use Rattle.cedar_policy_merge.specs.laws.Numerals.{fits_itself, glyph_is}

-- The number that is tried.
abbrev pub number_of : Trial → ℕ
number_of t = t.tens * 10 + t.digit

-- The digits before the last one. Without tens there are none.
abbrev pub stem_of : ℕ → List ℕ
stem_of zero = []
stem_of (suc t) = numeral (suc t)

-- Whether a trial is well-formed: its last digit is a digit, and its stem has the digits of its tens.
pub record IsAt (t : Trial) : Type 0 where
  pub digit : t.digit < 10
  pub stem : string_bytes t.stem ≡ stem_of t.tens

append_by : (k m : ℕ) (xs ys : List ℕ) →
    digits_onto k 10 false (m / 10) (digit_glyph false (m % 10) ∷ (xs ++ ys))
    ≡ digits_onto k 10 false (m / 10) (digit_glyph false (m % 10) ∷ xs) ++ ys →
    IsZero (m / 10) → digits_onto (suc k) 10 false m (xs ++ ys) ≡ digits_onto (suc k) 10 false m xs ++ ys
append_by k m xs ys e (yes z) = last_digit k m (xs ++ ys) z ∙ sym (ap (λ l. l ++ ys) (last_digit k m xs z))
append_by k m xs ys e (no z) = more_digits k m (xs ++ ys) z ∙ e ∙ sym (ap (λ l. l ++ ys) (more_digits k m xs z))

-- The digits of a number are written before the text that follows.
onto_append : (k m : ℕ) (xs ys : List ℕ) → digits_onto k 10 false m (xs ++ ys) ≡ digits_onto k 10 false m xs ++ ys
onto_append zero m xs ys = refl
onto_append (suc k) m xs ys =
    append_by k m xs ys (onto_append k (m / 10) (digit_glyph false (m % 10) ∷ xs) ys) (is_zero (m / 10))

last_of : (n d : ℕ) → n % 10 ≡ d → d < 10 → digit_glyph false (n % 10) ≡ 48 + d
last_of n d e l = ap (digit_glyph false) e ∙ glyph_is d l

-- A number below ten is one digit.
one_digit : (n d : ℕ) → n ≡ d → d < 10 → numeral n ≡ (48 + d) ∷ []
unfolding numeral
one_digit n d e l = last_digit n n [] (omega arith) ∙ ap (λ g. g ∷ []) (last_of n d (omega arith) l)

-- Any other number has the digits of its tens and then its last digit.
more : (n t d : ℕ) → n / 10 ≡ suc t → n % 10 ≡ d → d < 10 → numeral n ≡ numeral (suc t) ++ (48 + d) ∷ []
unfolding numeral
more n t d e q l =
    let k : n ≡ suc (n - 1) = omega arith in
    let tens : digits_onto n 10 false (suc t) [] ≡ digits_onto (suc (suc t)) 10 false (suc t) [] =
    ap (λ j. digits_onto j 10 false (suc t) []) k
    ∙ same_digits (n - 1) (suc t) (suc t) [] (fits_itself (n - 1) (suc t) (omega arith))
    (fits_itself (suc t) (suc t) (omega arith)) in
    more_digits n n [] (λ z. omega arith)
    ∙ (λ j. digits_onto n 10 false (e j) (last_of n d q l j ∷ []))
    ∙ onto_append n (suc t) [] ((48 + d) ∷ [])
    ∙ ap (λ ds. ds ++ (48 + d) ∷ []) tens

-- A number has the digits of its tens and then its last digit.
pub numeral_at : (t d : ℕ) → d < 10 → numeral (t * 10 + d) ≡ stem_of t ++ (48 + d) ∷ []
numeral_at zero d l = one_digit (0 * 10 + d) d (omega arith) l
numeral_at (suc t) d l = more (suc t * 10 + d) t d (omega arith) (omega arith) l

-- The id of a number, from its tens and its last digit.
pub id_at : (t d : ℕ) (stem : List ℕ) → d < 10 → stem ≡ stem_of t
    → codes "policy" ++ (stem ++ (48 + d) ∷ []) ≡ numbered (t * 10 + d)
id_at t d stem l e = ap (λ s. codes "policy" ++ (s ++ (48 + d) ∷ [])) e
    ∙ sym (ap (λ ds. codes "policy" ++ ds) (numeral_at t d l))

-- If there are tens, the stem has their digits.
pub stem_more : (t : ℕ) → stem_of (t + 1) ≡ numeral (t + 1)
stem_more t = let s : t + 1 ≡ suc t = omega arith in ap stem_of s ∙ sym (ap numeral s)
