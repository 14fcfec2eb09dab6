-- Masks of the tabs of a line.
use Rattle.std.proofs.Common.{◌≡◌, ◌≢◌, ℕ, ◌+◌, ◌-◌, ◌/◌, ◌%◌, ◌^◌, ◌<◌, ◌≤◌, ◌==◌, true, false, Bool, cond, List, length, get_or, sym, ap, subst, ◌∙◌, refl, arith, ⊎_elim, pow_pos, bit_or, ◌*◌}
use lib.ListN.{get_or-eq_default}
use Rattle.std.specs.Int.{bit_at}
use Rattle.std.proofs.lemmas.Nat.{div-add-mod'}
use Rattle.std.proofs.lemmas.Nat.Bits.{bit_at-zero, bit_at-lt, bit_at_or, bit_at_above, bit_at_cat_low, bit_at_cat_high}
use Rattle.std.proofs.lemmas.Bool.{cases_lt, false_from_ne_true}
use Rattle.std.proofs.lemmas.Simd.{length-chunk, get_or-chunk}
use lib.Lanes.{chunk}
use Rattle.cedar_lines.specs.laws.Fields.{HasTabAt, HasNoTabIn, MarksTabs, MarksTabsFrom}

is_set : (b : Bool) → cond {A = ℕ} b 1 0 ≡ 1 → b ≡ true
is_set true h = refl
is_set false h = absurd (omega arith)

-- If each bit states whether its byte is a tab, the mask marks the tabs.
pub MarksTabs-from_bits : (d : List ℕ) (i n m : ℕ) → i + n ≤ length d
    → ((k : ℕ) → bit_at m k ≡ cond (get_or (chunk i n d) k 0 == 9) 1 0) → MarksTabs d i (i + n) m
MarksTabs-from_bits d i n m room bits =
    let long = length-chunk i n d room in
    let lane = λ (k : ℕ) (l : k < n). ap (λ b. b == 9) (get_or-chunk i n d k 0 l) in
    record {
      each = λ k l tab. bits k ∙ ap (λ b. cond b 1 0) (lane k (omega arith) ∙ tab);
      only = λ k set.
          let tab = is_set _ (sym (bits k) ∙ set) in
          ⊎_elim (λ l. (omega arith, sym (lane k l) ∙ tab)) (λ past.
          let out : get_or (chunk i n d) k 0 ≡ 0 = get_or-eq_default (chunk i n d) 0 (omega arith) in
          let none = ap (λ b. b == 9) out in
          cc) (cases_lt k n);
    }

-- A mask of the tabs in a part of a line is a mask of the tabs in the line.
pub MarksTabs-from_chunk : (d : List ℕ) (from to m : ℕ) → from ≤ to → to ≤ length d
    → let v = chunk from (to - from) d in MarksTabs v 0 (length v) m → MarksTabs d from to m
MarksTabs-from_chunk d from to m ordered within h =
    let v = chunk from (to - from) d in
    let long : length v ≡ to - from = length-chunk from (to - from) d (omega arith) in
    let lane = λ (k : ℕ) (l : k < to - from). ap (λ b. b == 9) (get_or-chunk from (to - from) d k 0 l) in
    let first = λ (k : ℕ). let p : 0 + k ≡ k = omega arith in p in
    record {
      each = λ k l tab.
          h.each k (omega arith) (subst (HasTabAt v) (sym (first k)) (lane k (omega arith) ∙ tab));
      only = λ k set.
          let there = h.only k set in
          (omega (arith, there.0), sym (lane k (omega (arith, there.0))) ∙ subst (HasTabAt v) (first k) there.1);
    }

-- ---- The bits of a mask that is shifted up
in_word : (n k : ℕ) → k < 64 → bit_at (n % 2 ^ 64) k ≡ bit_at n k
in_word n k l = sym (bit_at_cat_low (n / 2 ^ 64) 64 (n % 2 ^ 64) k l) ∙ ap (λ x. bit_at x k) (div-add-mod' n (2 ^ 64))

shl_low : (m by k : ℕ) → k < by → k < 64 → bit_at (m * 2 ^ by % 2 ^ 64) k ≡ 0
shl_low m by k low l =
    let same : m * 2 ^ by + 0 ≡ m * 2 ^ by = omega arith in
    in_word (m * 2 ^ by) k l ∙ ap (λ x. bit_at x k) (sym same) ∙ bit_at_cat_low m by 0 k low ∙ bit_at-zero k

shl_high : (m by k : ℕ) → by ≤ k → k < 64 → bit_at (m * 2 ^ by % 2 ^ 64) k ≡ bit_at m (k - by)
shl_high m by k high l =
    let same : m * 2 ^ by + 0 ≡ m * 2 ^ by = omega arith in
    in_word (m * 2 ^ by) k l ∙ ap (λ x. bit_at x k) (sym same) ∙ bit_at_cat_high m by 0 k (pow_pos by) high

shl_above : (m by k : ℕ) → 64 ≤ k → bit_at (m * 2 ^ by % 2 ^ 64) k ≡ 0
shl_above m by k high = bit_at_above (m * 2 ^ by % 2 ^ 64) 64 k (omega arith) high

-- The masks of two ranges mark the tabs of both. The second range begins no later than the first ends.
pub MarksTabs-or : (d : List ℕ) (from mid seen to by a b : ℕ) → from + by ≡ mid → mid ≤ seen → seen ≤ to → to ≤ from + 64
    → MarksTabs d from seen a → MarksTabs d mid to b → MarksTabs d from to (bit_or a (b * 2 ^ by % 2 ^ 64))
MarksTabs-or d from mid seen to by a b same met ordered few front back =
    let shifted = b * 2 ^ by % 2 ^ 64 in
    let place = λ (k : ℕ) (l : by ≤ k). let p : mid + (k - by) ≡ from + k = omega arith in p in
    record {
      each = λ k l tab.
          ⊎_elim (λ low. let set = front.each k low tab in omega (arith, bit_at_or a shifted k, bit_at-lt shifted k))
          (λ high.
          let past : by ≤ k = omega arith in
          let set = back.each (k - by) (omega (arith, place k past)) (subst (HasTabAt d) (sym (place k past)) tab) in
          omega (arith, bit_at_or a shifted k, shl_high b by k past (omega arith), bit_at-lt a k)) (cases_lt (from + k) seen);
      only = λ k set.
          ⊎_elim (λ clear.
          let here : bit_at shifted k ≡ 1 = omega (arith, bit_at_or a shifted k) in
          let small : k < 64 = ⊎_elim (λ l. l) (λ above. absurd (omega (arith, shl_above b by k above))) (cases_lt k 64) in
          let past : by ≤ k = ⊎_elim (λ low. absurd (omega (arith, shl_low b by k low small))) (λ l. l) (cases_lt k by) in
          let there = back.only (k - by) (sym (shl_high b by k past small) ∙ here) in
          (omega (arith, place k past, there.0), subst (HasTabAt d) (place k past) there.1)) (λ some.
          let there = front.only k (omega (arith, bit_at-lt a k)) in
          (omega (arith, there.0), there.1)) (cases_lt (bit_at a k) 1);
    }

-- There is no tab before the lowest marked one.
pub HasNoTabIn-lowest : (d : List ℕ) (start from to m bit : ℕ) → MarksTabsFrom d start from to m → bit_at m bit ≡ 1
    → ((k : ℕ) → k < bit → bit_at m k ≡ 0) → HasNoTabIn d start (from + bit)
HasNoTabIn-lowest d start from to m bit h set below k low high =
    let there = h.only bit set in
    false_from_ne_true _ (λ tab.
    let marked = h.each k low (omega (arith, there.1)) tab in
    let clear = below (k - from) (omega (arith, marked.0)) in
    omega (arith, marked.1, clear))

-- After the lowest marked tab the other marked tabs are left.
pub MarksTabsFrom-next : (d : List ℕ) (start from to m bit rest : ℕ) → to ≤ from + 64 → MarksTabsFrom d start from to m
    → bit_at m bit ≡ 1 → ((k : ℕ) → k < bit → bit_at m k ≡ 0)
    → ((k : ℕ) → k < 64 → k ≢ bit → bit_at rest k ≡ bit_at m k)
    → ((k : ℕ) → bit_at rest k ≡ 1 → (k ≢ bit) × (bit_at m k ≡ 1)) → MarksTabsFrom d (from + bit + 1) from to rest
MarksTabsFrom-next d start from to m bit rest few h set below kept no_more =
    let there = h.only bit set in
    record {
      each = λ k low high tab.
          let marked = h.each k (omega (arith, there.0)) high tab in
          (marked.0, kept (k - from) (omega (arith, marked.0)) (omega (arith, marked.0)) ∙ marked.1);
      only = λ k left.
          let was = no_more k left in
          let at = h.only k was.1 in
          (⊎_elim (λ l. absurd (omega (arith, below k l, was.1))) (λ l. omega (arith, was.0)) (cases_lt k bit), at.1, at.2);
    }
