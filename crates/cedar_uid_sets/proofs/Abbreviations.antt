-- Comparisons of names and eids by their numbers.
use Rattle.std.specs.Prelude.{◌≡◌, ◌⊎◌, ℕ, zero, suc, ◌+◌, ◌*◌, ◌^◌, ◌<◌, ◌≤◌, Bool, true, false, ◌&&◌, ◌||◌, cond}
use Rattle.std.specs.Prelude.{List, [], ◌∷◌, length, nat_le, nat_eq, slice_index, IsTrue}
use Rattle.std.proofs.Common.{ap, sym, refl, subst, ◌∙◌, arith, inl, inr}
use Rattle.std.proofs.Math.Nat.{mul-le-mul_right, pow-suc}
use Rattle.std.proofs.Math.Dec.{eqb-suc-zero, eqb-zero-suc, eqb-suc-suc}
use Rattle.std.proofs.lemmas.Bool.{leb-true, eqb-true, eq-eqb, false≢true}
use Rattle.std.specs.Cmp.{ranks, first_so, second_so}
use Rattle.std.specs.Cmp.Lexicographic.{slice_cmp, pointwise, nat_list_cmp_total}
use Rattle.std.specs.List.{AllByRecursion, list_all, list_any}
use Rattle.std.specs.Set.{is_member}
use Rattle.std.specs.Ordering.{nat_cmp, is_lt, ordering_then, ordering_reverse, MatchOrdering}
use Rattle.std.specs.declared.cmp.Ordering.{Ordering}
use Rattle.std.specs.declared.cmp.Ordering.TheVariants.{Less, Equal, Greater}
use Rattle.cedar_ids.specs.Name.{NameParts, is_unqualified, name_cmp, name_eq}
use Rattle.cedar_ids.specs.laws.NameLaws.{name_cmp_total, name_eq_equiv}
use Rattle.cedar_ids.specs.Reading.{is_id, is_id_start, is_id_part}
use Rattle.cedar_ids.specs.TextOf.{IsName}
use Rattle.cedar_ids.specs.UidOf.{uid_parts, uid_order, same_uid}
use Rattle.cedar_ids.specs.laws.UidOfLaws.{same_uid_decides}
use Rattle.cedar_ids.specs.declared.entity.EntityUID.{EntityUID}
use Rattle.cedar_uid_sets.specs.laws.Fronts.{number, AreDigits, front, BeginsWithBytes, is_short, kind, same_numbers}
use Rattle.cedar_uid_sets.specs.laws.Fronts.{Abbreviate}

-- ---- Numbers and their digits

-- A number of n digits is less than 256^n.
bound : (n : ℕ) (g : ℕ → ℕ) → AreDigits n g → number n g < 256 ^ n
bound zero g h = omega arith
bound (suc n) g h = omega (arith, bound n (λ i. g (suc i)) h.1, mul-le-mul_right (256 ^ n) (top h.0), pow-suc 256 n)
  where
    top : g 0 < 256 → g 0 ≤ 255
    top l = omega (arith, l)

-- The number with the smaller first digit is smaller.
less_by : (x y a b p : ℕ) → x < y → a < p → x * p + a < y * p + b
less_by x y a b p l k = omega (arith, k, mul-le-mul_right p next)
  where
    next : suc x ≤ y
    next = omega (arith, l)

zeros : (n : ℕ) → number n (λ i. 0) ≡ 0
zeros zero = refl
zeros (suc n) = omega (arith, zeros n)

-- If a number is less, its first byte is less, or the first bytes are equal and the rest decides.
first_decides : (x y a b p : ℕ) (rest : Ordering) → a < p → b < p → x * p + a < y * p + b → (a < b → rest ≡ Less)
    → ordering_then (nat_cmp x y) rest ≡ Less
first_decides x y a b p rest k g l on = by (nat_cmp x y) (ranks x y)
  where
    by : (o : Ordering) → MatchOrdering o (x < y) (x ≡ y) (y < x) → ordering_then o rest ≡ Less
    by Less m = refl
    by Equal m = on (omega (arith, l, ap (λ z. z * p) m))
    by Greater m = absurd (omega (arith, l, less_by y x b a p m g))

-- If the number of a text is less, the text is less.
below : (n : ℕ) (xs ys : List ℕ) → AreDigits n (slice_index xs) → AreDigits n (slice_index ys)
    → number n (slice_index xs) < number n (slice_index ys) → slice_cmp nat_cmp xs ys ≡ Less
below zero xs ys h k l = absurd (omega (arith, l))
below (suc n) [] [] h k l = absurd (omega (arith, l))
below (suc n) [] (y ∷ ys) h k l = refl
below (suc n) (x ∷ xs) [] h k l = absurd (omega (arith, l, zeros n))
below (suc n) (x ∷ xs) (y ∷ ys) h k l =
    first_decides x y (number n (slice_index xs)) (number n (slice_index ys)) (256 ^ n) (slice_cmp nat_cmp xs ys)
    (bound n (slice_index xs) h.1) (bound n (slice_index ys) k.1) l (below n xs ys h.1 k.1)

-- If two fronts differ, they compare as the texts do.
pub fronts_decide : (xs ys : List ℕ) → BeginsWithBytes xs → BeginsWithBytes ys → (front xs ≡ front ys → ⊥)
    → nat_cmp (front xs) (front ys) ≡ slice_cmp nat_cmp xs ys
fronts_decide xs ys h k n = by (nat_cmp (front xs) (front ys)) (ranks (front xs) (front ys))
  where
    by : (o : Ordering) → MatchOrdering o (front xs < front ys) (front xs ≡ front ys) (front ys < front xs)
        → o ≡ slice_cmp nat_cmp xs ys
    by Less m = sym (below 8 xs ys h k m)
    by Equal m = absurd (n m)
    by Greater m = sym (nat_list_cmp_total.antisymm xs ys ∙ ap ordering_reverse (below 8 ys xs k h m))

-- ---- Short texts without zero bytes have different fronts

abbrev AreLetters : List ℕ → Type 0
AreLetters xs = AllByRecursion (λ b. (0 < b) × (b < 256)) xs

digits : (n : ℕ) (xs : List ℕ) → AreLetters xs → AreDigits n (slice_index xs)
digits zero xs h = tt
digits (suc n) [] h = (omega arith, digits n [] tt)
digits (suc n) (x ∷ xs) h = (h.0.1, digits n xs h.1)

positive : (n : ℕ) → 0 < 256 ^ n
positive n = omega (arith, bound n (λ i. 0) (digits n [] tt))

no_less : (y n : ℕ) → 0 < y → 256 ^ n ≤ y * 256 ^ n
no_less y n l = omega (arith, mul-le-mul_right (256 ^ n) one)
  where
    one : 1 ≤ y
    one = omega (arith, l)

-- If two numbers are equal, their first digits and the rests are equal.
first_same : (x y a b p : ℕ) → a < p → b < p → x * p + a ≡ y * p + b → (x ≡ y) × (a ≡ b)
first_same x y a b p k g e = by (nat_cmp x y) (ranks x y)
  where
    by : (o : Ordering) → MatchOrdering o (x < y) (x ≡ y) (y < x) → (x ≡ y) × (a ≡ b)
    by Less m = absurd (omega (arith, e, less_by x y a b p m k))
    by Equal m = (m, omega (arith, e, ap (λ z. z * p) m))
    by Greater m = absurd (omega (arith, e, less_by y x b a p m g))

told_apart : (n : ℕ) (xs ys : List ℕ) → length xs ≤ n → length ys ≤ n → AreLetters xs → AreLetters ys
    → number n (slice_index xs) ≡ number n (slice_index ys) → xs ≡ ys
told_apart n [] [] l k h g e = refl
told_apart zero [] (y ∷ ys) l k h g e = absurd (omega (arith, k))
told_apart zero (x ∷ xs) ys l k h g e = absurd (omega (arith, l))
told_apart (suc n) [] (y ∷ ys) l k h g e = absurd (omega (arith, e, zeros n, no_less y n g.0.0, positive n))
told_apart (suc n) (x ∷ xs) [] l k h g e = absurd (omega (arith, e, zeros n, no_less x n h.0.0, positive n))
told_apart (suc n) (x ∷ xs) (y ∷ ys) l k h g e =
    let both = first_same x y (number n (slice_index xs)) (number n (slice_index ys)) (256 ^ n)
    (bound n (slice_index xs) (digits n xs h.1)) (bound n (slice_index ys) (digits n ys g.1)) e in
    λ i. both.0 i ∷ told_apart n xs ys (omega (arith, l)) (omega (arith, k)) h.1 g.1 both.1 i

-- Two texts of at most n bytes with the same number are equal if their lengths are equal.
pub lengths_tell : (n : ℕ) (xs ys : List ℕ) → length xs ≤ n → AreDigits n (slice_index xs)
    → AreDigits n (slice_index ys)
    → number n (slice_index xs) ≡ number n (slice_index ys) → nat_eq (length xs) (length ys) ≡ pointwise nat_eq xs ys
lengths_tell n [] [] l h k e = refl
lengths_tell n [] (y ∷ ys) l h k e = eqb-zero-suc (length ys)
lengths_tell n (x ∷ xs) [] l h k e = eqb-suc-zero (length xs)
lengths_tell zero (x ∷ xs) (y ∷ ys) l h k e = absurd (omega (arith, l))
lengths_tell (suc n) (x ∷ xs) (y ∷ ys) l h k e =
    let both = first_same x y (number n (slice_index xs)) (number n (slice_index ys)) (256 ^ n)
    (bound n (slice_index xs) h.1) (bound n (slice_index ys) k.1) e in
    eqb-suc-suc (length xs) (length ys) ∙ lengths_tell n xs ys (omega (arith, l)) h.1 k.1 both.1
    ∙ sym (ap (λ b. b && pointwise nat_eq xs ys) (eq-eqb x y both.0))

-- ---- Ids have no zero byte

either : (p q : Bool) → (p || q) ≡ true → (p ≡ true) ⊎ (q ≡ true)
either true q h = inl refl
either false q h = inr h

in_range : (low high b : ℕ) → 0 < low → high < 256 → (nat_le low b && nat_le b high) ≡ true → (0 < b) × (b < 256)
in_range low high b l k h =
    let from : low ≤ b = leb-true low b (first_so _ _ h) in
    let to : b ≤ high = leb-true b high (second_so (nat_le low b) _ h) in
    (omega (arith, l, from), omega (arith, k, to))

start_is_letter : (b : ℕ) → is_id_start b ≡ true → (0 < b) × (b < 256)
start_is_letter b h = by (either (nat_le 65 b && nat_le b 90) _ h)
  where
    lower : ((nat_le 97 b && nat_le b 122) ≡ true) ⊎ (nat_eq b 95 ≡ true) → (0 < b) × (b < 256)
    lower (inl k) = in_range 97 122 b (omega arith) (omega arith) k
    lower (inr k) = let e : b ≡ 95 = eqb-true b 95 k in (omega (arith, e), omega (arith, e))

    by : ((nat_le 65 b && nat_le b 90) ≡ true) ⊎ (((nat_le 97 b && nat_le b 122) || nat_eq b 95) ≡ true)
        → (0 < b) × (b < 256)
    by (inl k) = in_range 65 90 b (omega arith) (omega arith) k
    by (inr k) = lower (either (nat_le 97 b && nat_le b 122) _ k)

part_is_letter : (b : ℕ) → is_id_part b ≡ true → (0 < b) × (b < 256)
part_is_letter b h = by (either (is_id_start b) _ h)
  where
    by : (is_id_start b ≡ true) ⊎ ((nat_le 48 b && nat_le b 57) ≡ true) → (0 < b) × (b < 256)
    by (inl k) = start_is_letter b k
    by (inr k) = in_range 48 57 b (omega arith) (omega arith) k

parts_are_letters : (bs : List ℕ) → list_all is_id_part bs ≡ true → AreLetters bs
parts_are_letters [] h = tt
parts_are_letters (b ∷ bs) h = (part_is_letter b (first_so _ _ h), parts_are_letters bs (second_so (is_id_part b) _ h))

letters : (id : List ℕ) → IsTrue (is_id id) → AreLetters id
unfolding is_id
letters [] h = tt
letters (b ∷ bs) h =
    let word : (is_id_start b && list_all is_id_part bs) ≡ true =
    first_so (is_id_start b && list_all is_id_part bs) _ h in
    (start_is_letter b (first_so _ _ word), parts_are_letters bs (second_so (is_id_start b) _ word))

-- ---- Names

-- A name whose kind is not 0 is short, and its kind is its front.
record IsShort (n : NameParts) : Type 0 where
  pub path : n.path ≡ []
  pub long : length n.basename ≤ 8
  pub kind : kind n ≡ front n.basename

is_nothing : (ids : List (List ℕ)) → nat_eq (length ids) 0 ≡ true → ids ≡ []
is_nothing [] h = refl
is_nothing (id ∷ ids) h = let z : length (id ∷ ids) ≡ 0 = eqb-true (length (id ∷ ids)) 0 h in absurd (omega arith)

short : (n : NameParts) → (kind n ≡ 0 → ⊥) → IsShort n
short n h = by (is_short n) refl
  where
    by : (b : Bool) → is_short n ≡ b → IsShort n
    by true e = record {
      path = is_nothing n.path (first_so _ _ e);
      long = leb-true _ 8 (second_so (is_unqualified n) _ e);
      kind = ap (λ b. cond b (front n.basename) 0) e;
    }
    by false e = absurd (h (ap (λ b. cond b (front n.basename) 0) e))

then_none : (o : Ordering) → o ≡ ordering_then o Equal
then_none Less = refl
then_none Equal = refl
then_none Greater = refl

same_texts : (xs : List ℕ) → slice_cmp nat_cmp xs xs ≡ Equal
same_texts xs = self (slice_cmp nat_cmp xs xs) (nat_list_cmp_total.antisymm xs xs)
  where
    self : (o : Ordering) → o ≡ ordering_reverse o → o ≡ Equal
    self Less e = cc
    self Equal e = refl
    self Greater e = cc

module _ (m n : NameParts) (valid : IsName m) (good : IsName n) (some : kind m ≡ 0 → ⊥) (any : kind n ≡ 0 → ⊥) where
  -- Names of the same kind are equal.
  pub one_name : kind m ≡ kind n → m ≡ n
  one_name e =
      let s = short m some in
      let t = short n any in
      let fronts : front m.basename ≡ front n.basename = sym s.kind ∙ e ∙ t.kind in
      let texts : m.basename ≡ n.basename = told_apart 8 m.basename n.basename s.long t.long
      (letters m.basename valid.1) (letters n.basename good.1) fronts in
      let paths : m.path ≡ n.path = s.path ∙ sym t.path in
      λ i. record { path = paths i; basename = texts i }

  -- If two kinds differ, they compare as the names do.
  pub kinds_decide : (kind m ≡ kind n → ⊥) → nat_cmp (kind m) (kind n) ≡ name_cmp m n
  kinds_decide differ =
      let s = short m some in
      let t = short n any in
      let fronts : (front m.basename ≡ front n.basename → ⊥) = λ e. differ (s.kind ∙ e ∙ sym t.kind) in
      (λ i. nat_cmp (s.kind i) (t.kind i))
      ∙ fronts_decide m.basename n.basename (digits 8 m.basename (letters m.basename valid.1))
      (digits 8 n.basename (letters n.basename good.1)) fronts
      ∙ then_none (slice_cmp nat_cmp m.basename n.basename)
      ∙ (λ i. ordering_then (slice_cmp nat_cmp m.basename n.basename)
      (slice_cmp (slice_cmp nat_cmp) (sym s.path i) (sym t.path i)))

-- ---- Uids

differ_decide : (k l : ℕ) (rest : Ordering) → (k ≡ l → ⊥) → nat_cmp k l ≡ ordering_then (nat_cmp k l) rest
differ_decide k l rest differ = by (nat_cmp k l) (ranks k l)
  where
    by : (o : Ordering) → MatchOrdering o (k < l) (k ≡ l) (l < k) → o ≡ ordering_then o rest
    by Less m = refl
    by Equal m = absurd (differ m)
    by Greater m = refl

same_names : (n : NameParts) → name_cmp n n ≡ Equal
same_names n = self (name_cmp n n) (name_cmp_total.antisymm n n)
  where
    self : (o : Ordering) → o ≡ ordering_reverse o → o ≡ Equal
    self Less e = cc
    self Equal e = refl
    self Greater e = cc

module _ (k l f g : ℕ) (x y : EntityUID) (a : Abbreviate k f x) (b : Abbreviate l g y) (some : k ≡ 0 → ⊥)
    (any : l ≡ 0 → ⊥) where
  short_one : kind (uid_parts x).name ≡ 0 → ⊥
  short_one e = some (a.of_name ∙ e)

  short_other : kind (uid_parts y).name ≡ 0 → ⊥
  short_other e = any (b.of_name ∙ e)

  names : k ≡ l → (uid_parts x).name ≡ (uid_parts y).name
  names e =
      one_name (uid_parts x).name (uid_parts y).name a.name b.name short_one short_other (sym a.of_name ∙ e ∙ b.of_name)

  -- If the kinds differ, they decide the order.
  pub by_kinds : (k ≡ l → ⊥) → nat_cmp k l ≡ uid_order x y
  by_kinds differ =
      differ_decide k l (slice_cmp nat_cmp (uid_parts x).eid (uid_parts y).eid) differ
      ∙ ap (λ o. ordering_then o (slice_cmp nat_cmp (uid_parts x).eid (uid_parts y).eid))
      ((λ i. nat_cmp (a.of_name i) (b.of_name i))
      ∙ kinds_decide (uid_parts x).name (uid_parts y).name a.name b.name short_one short_other
      (λ e. differ (a.of_name ∙ e ∙ sym b.of_name)))

  -- If the kinds are equal, the eids decide the order.
  pub by_eids : k ≡ l → slice_cmp nat_cmp (uid_parts x).eid (uid_parts y).eid ≡ uid_order x y
  by_eids e =
      let one : name_cmp (uid_parts x).name (uid_parts y).name ≡ Equal =
      ap (name_cmp (uid_parts x).name) (sym (names e)) ∙ same_names (uid_parts x).name in
      sym (ap (λ o. ordering_then o (slice_cmp nat_cmp (uid_parts x).eid (uid_parts y).eid)) one)

  -- If the kinds are equal and the fronts differ, the fronts decide the order.
  pub by_fronts : k ≡ l → (f ≡ g → ⊥) → nat_cmp f g ≡ uid_order x y
  by_fronts e differ =
      (λ i. nat_cmp (a.of_eid i) (b.of_eid i))
      ∙ fronts_decide (uid_parts x).eid (uid_parts y).eid a.bytes b.bytes (λ d. differ (a.of_eid ∙ d ∙ sym b.of_eid))
      ∙ by_eids e

  -- If the kinds are equal, the uid with the smaller front is less.
  pub by_lesser_front : k ≡ l → f < g → true ≡ is_lt (uid_order x y)
  by_lesser_front e h = by (nat_cmp f g) (ranks f g) ∙ ap is_lt (by_fronts e (λ d. omega (arith, h, d)))
    where
      by : (o : Ordering) → MatchOrdering o (f < g) (f ≡ g) (g < f) → true ≡ is_lt o
      by Less m = refl
      by Equal m = absurd (omega (arith, h, m))
      by Greater m = absurd (omega (arith, h, m))

  -- Uids of the same kind are equal if and only if their eids are.
  pub same_by_eids : k ≡ l → pointwise nat_eq (uid_parts x).eid (uid_parts y).eid ≡ same_uid x y
  same_by_eids e =
      let one : name_eq (uid_parts x).name (uid_parts y).name ≡ true = ap (name_eq (uid_parts x).name) (sym (names e))
      ∙ name_eq_equiv.refl (uid_parts x).name in
      sym (ap (λ b. b && pointwise nat_eq (uid_parts x).eid (uid_parts y).eid) one)

-- Uids with different numbers differ.
pub apart_by_numbers : (k l f g : ℕ) (x y : EntityUID) → Abbreviate k f x → Abbreviate l g y → (f ≡ g → k ≡ l → ⊥)
    → false ≡ same_uid x y
apart_by_numbers k l f g x y a b differ = by (same_uid x y) refl
  where
    by : (t : Bool) → same_uid x y ≡ t → false ≡ t
    by false e = refl
    by true e =
        let same = (same_uid_decides x y).0 e in
        absurd (differ (a.of_eid ∙ ap (λ u. front (uid_parts u).eid) same ∙ sym b.of_eid) (a.of_name
        ∙ ap (λ u. kind (uid_parts u).name) same ∙ sym b.of_name))

-- ---- Comparison of the numbers before a lookup

or_first : (a b : Bool) → (a || b) ≡ false → a ≡ false
or_first true b h = h
or_first false b h = refl

or_second : (a b : Bool) → (a || b) ≡ false → b ≡ false
or_second true b h = absurd (false≢true (sym h))
or_second false b h = h

eq_itself : (n : ℕ) → nat_eq n n ≡ true
eq_itself n = eq-eqb n n refl

same_itself : (u : EntityUID) → same_numbers u u ≡ true
same_itself u = rw (eq_itself (front (uid_parts u).eid), eq_itself (kind (uid_parts u).name)) refl

-- If no uid of a list has the numbers of u, then u is not in the list.
pub none_without_numbers : (u : EntityUID) (us : List EntityUID) → list_any (same_numbers u) us ≡ false
    → is_member same_uid us u ≡ false
none_without_numbers u [] h = refl
none_without_numbers u (v ∷ vs) h =
    rw (differ (same_uid u v) refl, none_without_numbers u vs (or_second (same_numbers u v) _ h)) refl
  where
    differ : (b : Bool) → same_uid u v ≡ b → b ≡ false
    differ false e = refl
    differ true e =
        absurd (false≢true (sym (or_first (same_numbers u v) _ h)
        ∙ subst (λ w. same_numbers u w ≡ true) ((same_uid_decides u v).0 e) (same_itself u)))
