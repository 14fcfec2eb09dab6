-- The decimal digits of a number. They are the standard library's if that allows enough digits. Different numbers have
-- different digits.
use Rattle.std.specs.Prelude.{◌≡◌, ℕ, ◌+◌, ◌-◌, ◌*◌, ◌/◌, ◌%◌, ◌^◌, ◌<◌, List, [], ◌∷◌, Bool, false, refl, suc, zero}
use Rattle.std.specs.Prelude.{codes}
use Rattle.std.proofs.Common.{◌≤◌, sym, ap, ◌∙◌, arith, pow-suc, mod-lt, div-add-mod', eq-eqb, ne_eqb, lt-ltb, cond}
use Rattle.std.specs.Fmt.{digit_glyph, digits_onto, digits, decimal}
use Rattle.std.proofs.lemmas.List.{append_cancel_left}
use Rattle.cedar_policy_merge.specs.Fresh.{numeral, numbered}

-- Whether the number `n` has at most `k + 1` digits.
abbrev pub Fits : ℕ → ℕ → Type 0
Fits zero n = n < 10
Fits (suc k) n = Fits k (n / 10)

pub fits_itself : (k n : ℕ) → n ≤ k → Fits k n
fits_itself zero n h = omega arith
fits_itself (suc k) n h = fits_itself k (n / 10) (omega arith)

fits_below : (k n : ℕ) → n < 10 ^ suc k → Fits k n
fits_below zero n h = h
fits_below (suc k) n h = fits_below k (n / 10) (let p = pow-suc 10 (suc k) in omega (arith, p))

-- The digits of a number end with its last digit.
pub last_digit : (k n : ℕ) (acc : List ℕ) → n / 10 ≡ 0 → digits_onto (suc k) 10 false n acc
    ≡ digit_glyph false (n % 10) ∷ acc
last_digit k n acc e = ap (λ (b : Bool). cond b (digit_glyph false (n % 10) ∷ acc)
    (digits_onto k 10 false (n / 10) (digit_glyph false (n % 10) ∷ acc))) (eq-eqb (n / 10) 0 e)

pub more_digits : (k n : ℕ) (acc : List ℕ) → (n / 10 ≡ 0 → ⊥)
    → digits_onto (suc k) 10 false n acc ≡ digits_onto k 10 false (n / 10) (digit_glyph false (n % 10) ∷ acc)
more_digits k n acc e = ap (λ (b : Bool). cond b (digit_glyph false (n % 10) ∷ acc)
    (digits_onto k 10 false (n / 10) (digit_glyph false (n % 10) ∷ acc))) (ne_eqb (n / 10) 0 e)

pub data IsZero (n : ℕ) : Type 0 where
  yes : n ≡ 0 → IsZero n
  no : (n ≡ 0 → ⊥) → IsZero n

pub is_zero : (n : ℕ) → IsZero n
is_zero zero = yes refl
is_zero (suc n) = no (λ e. omega arith)

-- Two bounds that are large enough give the same digits.
same_by : (j k n : ℕ) (acc : List ℕ) → Fits j (n / 10) → Fits k (n / 10) →
    (digits_onto (suc j) 10 false (n / 10) (digit_glyph false (n % 10) ∷ acc)
    ≡ digits_onto (suc k) 10 false (n / 10) (digit_glyph false (n % 10) ∷ acc)) →
    IsZero (n / 10) → digits_onto (suc (suc j)) 10 false n acc ≡ digits_onto (suc (suc k)) 10 false n acc
same_by j k n acc f g e (yes z) = last_digit (suc j) n acc z ∙ sym (last_digit (suc k) n acc z)
same_by j k n acc f g e (no z) = more_digits (suc j) n acc z ∙ e ∙ sym (more_digits (suc k) n acc z)

pub same_digits : (j k n : ℕ) (acc : List ℕ) → Fits j n → Fits k n
    → digits_onto (suc j) 10 false n acc ≡ digits_onto (suc k) 10 false n acc
same_digits zero k n acc f g = let z : n / 10 ≡ 0 = omega arith in last_digit zero n acc z ∙ sym (last_digit k n acc z)
same_digits (suc j) zero n acc f g = let z : n / 10 ≡ 0 = omega arith in
    last_digit (suc j) n acc z ∙ sym (last_digit zero n acc z)
same_digits (suc j) (suc k) n acc f g =
    same_by j k n acc f g (same_digits j k (n / 10) (digit_glyph false (n % 10) ∷ acc) f g) (is_zero (n / 10))

-- Below 10 ^ 64 the digits are the standard library's.
pub numeral_decimal : (n : ℕ) → n < 10 ^ 64 → numeral n ≡ decimal n
unfolding numeral digits
numeral_decimal n h = same_digits n 63 n [] (fits_itself n n (omega arith)) (fits_below 63 n h)

-- The number that these digits represent, after the digits of `a`.
abbrev value_after : ℕ → List ℕ → ℕ
value_after a [] = a
value_after a (c ∷ cs) = value_after (a * 10 + (c - 48)) cs

pub glyph_is : (d : ℕ) → d < 10 → digit_glyph false d ≡ 48 + d
glyph_is d h = ap (λ (b : Bool). cond b (48 + d) (87 + d)) (lt-ltb d 10 h)

read_digit : (a n : ℕ) (acc : List ℕ) → value_after a (digit_glyph false (n % 10) ∷ acc)
    ≡ value_after (a * 10 + n % 10) acc
read_digit a n acc =
    ap (λ g. value_after (a * 10 + (g - 48)) acc) (glyph_is (n % 10) (mod-lt n (omega arith)))
    ∙ ap (λ d. value_after (a * 10 + d) acc) {x = 48 + n % 10 - 48} {y = n % 10} (omega arith)

read_by : (k n : ℕ) (acc : List ℕ) → value_after 0 (digits_onto k 10 false (n / 10) (digit_glyph false (n % 10) ∷ acc))
    ≡ value_after (n / 10) (digit_glyph false (n % 10) ∷ acc) →
    IsZero (n / 10) → value_after 0 (digits_onto (suc k) 10 false n acc) ≡ value_after n acc
read_by k n acc e (yes z) =
    ap (value_after 0) (last_digit k n acc z) ∙ read_digit 0 n acc
    ∙ ap (λ d. value_after d acc) {x = 0 * 10 + n % 10} {y = n} (omega (arith, div-add-mod' n 10))
read_by k n acc e (no z) =
    ap (value_after 0) (more_digits k n acc z) ∙ e ∙ read_digit (n / 10) n acc
    ∙ ap (λ d. value_after d acc) (div-add-mod' n 10)

-- Reading the digits of a number returns the number.
read_back : (k n : ℕ) (acc : List ℕ) → Fits k n → value_after 0 (digits_onto (suc k) 10 false n acc) ≡ value_after n acc
read_back zero n acc f =
    let z : n / 10 ≡ 0 = omega arith in
    ap (value_after 0) (last_digit zero n acc z) ∙ read_digit 0 n acc
    ∙ ap (λ d. value_after d acc) {x = 0 * 10 + n % 10} {y = n} (omega (arith, div-add-mod' n 10))
read_back (suc k) n acc f = read_by (suc k) n acc (read_back k (n / 10) (digit_glyph false (n % 10) ∷ acc) f)
    (is_zero (n / 10))

numeral_read : (n : ℕ) → value_after 0 (numeral n) ≡ n
unfolding numeral
numeral_read n = read_back n n [] (fits_itself n n (omega arith))

-- Different numbers have different ids.
pub numbered_is : (m n : ℕ) → numbered m ≡ numbered n → m ≡ n
numbered_is m n e =
    let d : numeral m ≡ numeral n = append_cancel_left (codes "policy") (numeral m) (numeral n) e in
    sym (numeral_read m) ∙ ap (value_after 0) d ∙ numeral_read n
