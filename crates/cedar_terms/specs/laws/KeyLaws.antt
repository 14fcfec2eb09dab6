-- Laws of keys, and decoding from keys.
use Rattle.std.specs.Prelude.{◌≡◌, ℕ, ℤ, pos, List, [], ◌∷◌, refl}
use Rattle.std.proofs.Common.{ap, sym, ◌∙◌, arith}
use Rattle.std.specs.declared.cmp.Ordering.{Ordering}
use Rattle.std.specs.declared.cmp.Ordering.TheVariants.{Less, Equal, Greater}
use Rattle.std.specs.Ordering.{ordering_then, ordering_reverse, int_cmp, nat_cmp}
use Rattle.std.specs.Cmp.{IsTotalOrder, int_cmp_total, tied_itself}
use Rattle.std.proofs.lemmas.Cmp.{int_ranked}
use Rattle.std.proofs.lemmas.Bool.Decides.{nat_tests}
use Rattle.std.specs.Cmp.Lexicographic.{slice_cmp}
use Rattle.cedar_terms.specs.Keys.{Key, fork, key_cmp, list_key, nat_key, text_key, tip}

then_reverse : (a b : Ordering) → ordering_reverse (ordering_then a b)
    ≡ ordering_then (ordering_reverse a) (ordering_reverse b)
then_reverse Less b = refl
then_reverse Equal b = refl
then_reverse Greater b = refl

key_antisymm : (x y : Key) → key_cmp x y ≡ ordering_reverse (key_cmp y x)
key_antisymm (tip a) (tip b) = int_cmp_total.antisymm a b
key_antisymm (tip a) (fork c d) = refl
key_antisymm (fork a b) (tip c) = refl
key_antisymm (fork a b) (fork c d) = (λ i. ordering_then (key_antisymm a c i) (key_antisymm b d i))
    ∙ sym (then_reverse (key_cmp c a) (key_cmp d b))

then_equal : (a b : Ordering) → ordering_then a b ≡ Equal → (a ≡ Equal) × (b ≡ Equal)
then_equal Less b e = absurd (cc)
then_equal Equal b e = (refl, e)
then_equal Greater b e = absurd (cc)

int_equal : (a b : ℤ) → int_cmp a b ≡ Equal → a ≡ b
int_equal a b e = int_ranked a b Equal (sym e)

-- Keys that compare as `Equal` are equal.
pub key_cmp-Equal : (x y : Key) → key_cmp x y ≡ Equal → x ≡ y
key_cmp-Equal (tip a) (tip b) e = ap tip (int_equal a b e)
key_cmp-Equal (tip a) (fork c d) e = absurd (cc)
key_cmp-Equal (fork a b) (tip c) e = absurd (cc)
key_cmp-Equal (fork a b) (fork c d) e =
    let p = then_equal (key_cmp a c) (key_cmp b d) e in
    let q : a ≡ c = key_cmp-Equal a c p.0 in
    let r : b ≡ d = key_cmp-Equal b d p.1 in
    λ i. fork (q i) (r i)

-- A key compares as `Equal` to itself.
pub key_cmp-itself : (x : Key) → key_cmp x x ≡ Equal
key_cmp-itself (tip a) = tied_itself int_cmp_total a
key_cmp-itself (fork a b) = (λ i. ordering_then (key_cmp-itself a i) (key_cmp-itself b i))

then_less : (a b : Ordering) → ordering_then a b ≡ Less → (c d : Ordering) → ordering_then c d ≡ Less → (f g : Ordering)
    → (a ≡ Less → c ≡ Less → f ≡ Less) → (a ≡ Equal → f ≡ c) → (c ≡ Equal → f ≡ a) → (b ≡ Less → d ≡ Less → g ≡ Less)
    → ordering_then f g ≡ Less
then_less Less b p Less d q f g chain left right more = rw (chain refl refl) refl
then_less Less b p Equal d q f g chain left right more = rw (right refl) refl
then_less Less b p Greater d q f g chain left right more = absurd (cc)
then_less Equal b p Less d q f g chain left right more = rw (left refl) refl
then_less Equal b p Equal d q f g chain left right more = rw (left refl) (more p q)
then_less Equal b p Greater d q f g chain left right more = absurd (cc)
then_less Greater b p c d q f g chain left right more = absurd (cc)

key_trans : (x y z : Key) → key_cmp x y ≡ Less → key_cmp y z ≡ Less → key_cmp x z ≡ Less
key_trans (tip a) (tip b) (tip c) p q = int_cmp_total.trans a b c p q
key_trans (tip a) (tip b) (fork e f) p q = refl
key_trans (tip a) (fork c d) (tip b) p q = absurd (cc)
key_trans (tip a) (fork c d) (fork e f) p q = refl
key_trans (fork a b) (tip c) z p q = absurd (cc)
key_trans (fork a b) (fork c d) (tip e) p q = absurd (cc)
key_trans (fork a b) (fork c d) (fork e f) p q =
    then_less (key_cmp a c) (key_cmp b d) p (key_cmp c e) (key_cmp d f) q (key_cmp a e) (key_cmp b f)
    (key_trans a c e) (λ s. ap (λ k. key_cmp k e) (key_cmp-Equal a c s))
    (λ s. sym (ap (λ k. key_cmp a k) (key_cmp-Equal c e s))) (key_trans b d f)

-- The order of keys is total.
pub key_cmp_total : IsTotalOrder key_cmp
key_cmp_total = record {
  antisymm = key_antisymm;
  trans = key_trans;
  congr =
      λ x y z e. ap (λ k. key_cmp k z) (key_cmp-Equal x y e);
}

-- ---- The parts of a key

-- Equal pairs have equal first parts.
pub left : (a b c d : Key) → fork a b ≡ fork c d → a ≡ c
left a b c d e = cc

-- Equal pairs have equal second parts.
pub right : (a b c d : Key) → fork a b ≡ fork c d → b ≡ d
right a b c d e = cc

-- The first part of a pair.
abbrev pub left_at : Key → Key
left_at (tip n) = tip n
left_at (fork a b) = a

-- The second part of a pair.
abbrev pub right_at : Key → Key
right_at (tip n) = tip n
right_at (fork a b) = b

-- If values can be decoded from their keys, values with equal keys are equal.
pub read_back : {A : Type 0} (f : A → Key) (g : Key → A) → ((x : A) → g (f x) ≡ x) → (x y : A) → f x ≡ f y → x ≡ y
read_back f g h x y e = sym (h x) ∙ ap g e ∙ h y

-- ---- Keys of numbers and lists

-- The integer with this key.
abbrev pub int_at : Key → ℤ
int_at (tip n) = n
int_at (fork a b) = pos 0

-- The natural number with this key.
abbrev pub nat_at : Key → ℕ
nat_at (tip (pos n)) = n
nat_at k = 0

-- Numbers with equal keys are equal.
pub nat_key-inj : (a b : ℕ) → nat_key a ≡ nat_key b → a ≡ b
nat_key-inj a b e = cc

-- Numbers are ordered as their keys.
pub nat_key-cmp : (a b : ℕ) → key_cmp (nat_key a) (nat_key b) ≡ nat_cmp a b
nat_key-cmp a b = grind (arith, nat_tests)

-- The list with this key.
abbrev pub list_at : {A : Type 0} → (Key → A) → Key → List A
list_at g (tip n) = []
list_at g (fork k l) = g k ∷ list_at g l

-- If elements can be decoded from their keys, lists can be decoded from theirs.
pub list_at-list_key : {A : Type 0} (f : A → Key) (g : Key → A) → ((x : A) → g (f x) ≡ x) → (xs : List A)
    → list_at g (list_key f xs) ≡ xs
list_at-list_key f g h [] = refl
list_at-list_key f g h (x ∷ xs) = λ i. h x i ∷ list_at-list_key f g h xs i

-- If elements with equal keys are equal, lists with equal keys are equal.
pub list_key-inj : {A : Type 0} (f : A → Key) → ((x y : A) → f x ≡ f y → x ≡ y) → (xs ys : List A)
    → list_key f xs ≡ list_key f ys → xs ≡ ys
list_key-inj f h [] [] e = refl
list_key-inj f h [] (y ∷ ys) e = absurd (cc)
list_key-inj f h (x ∷ xs) [] e = absurd (cc)
list_key-inj f h (x ∷ xs) (y ∷ ys) e =
    let q : x ≡ y = h x y (left _ _ _ _ e) in
    let r : xs ≡ ys = list_key-inj f h xs ys (right _ _ _ _ e) in
    λ i. q i ∷ r i

-- If elements are ordered as their keys, lists are ordered as theirs.
pub list_key-cmp : {A : Type 0} (f : A → Key) (R : A → A → Ordering) → ((x y : A) → key_cmp (f x) (f y) ≡ R x y)
    → (xs ys : List A) → key_cmp (list_key f xs) (list_key f ys) ≡ slice_cmp R xs ys
list_key-cmp f R h [] [] = refl
list_key-cmp f R h [] (y ∷ ys) = refl
list_key-cmp f R h (x ∷ xs) [] = refl
list_key-cmp f R h (x ∷ xs) (y ∷ ys) = λ i. ordering_then (h x y i) (list_key-cmp f R h xs ys i)

-- The text with this key.
abbrev pub text_at : Key → List ℕ
text_at k = list_at nat_at k

-- Decoding the key of a text gives the text.
pub text_at-text_key : (s : List ℕ) → text_at (text_key s) ≡ s
text_at-text_key s = list_at-list_key nat_key nat_at (λ n. refl) s

-- Texts with equal keys are equal.
pub text_key-inj : (s t : List ℕ) → text_key s ≡ text_key t → s ≡ t
text_key-inj s t e = read_back text_key text_at text_at-text_key s t e

-- Texts are ordered as their keys.
pub text_key-cmp : (s t : List ℕ) → key_cmp (text_key s) (text_key t) ≡ slice_cmp nat_cmp s t
text_key-cmp s t = list_key-cmp nat_key nat_cmp nat_key-cmp s t
