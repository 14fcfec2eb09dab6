-- Conclusions from the masks of the bytes that need an escape.
use Rattle.std.proofs.Common.{◌≡◌, ℕ, suc, ◌+◌, ◌-◌, ◌/◌, ◌%◌, ◌^◌, ◌<◌, ◌≤◌, true, false, Bool, ◌||◌, cond, List, [], ◌∷◌, map, length, drop, get_or, Fits, w8, sym, ap, subst, ◌∙◌, refl, arith, get_or-drop, length-drop, pow_pos, ⊎_elim}
use Rattle.std.specs.Int.{bit_at}
use Rattle.std.proofs.lemmas.Nat.{div-add-mod'}
use Rattle.std.proofs.lemmas.Nat.Bits.{bit_at_above}
use Rattle.std.proofs.lemmas.Bool.{agree_below, agree_below_at, cases_lt}
use Rattle.std.proofs.lemmas.Simd.{map-map, mask_l-mod, bit_mask_l, length-chunk, get_or-chunk}
use Rattle.std.proofs.lemmas.List.{length-map, get_or-map}
use lib.Lanes.{chunk, mask_l, top}
use Rattle.cedar_ids.specs.Escape.{is_extra_escape, is_extra_escape_byte}

-- Whether no byte from one place up to another needs an escape.
abbrev pub AreOwnEscapesIn : List ℕ → ℕ → ℕ → Type 0
AreOwnEscapesIn xs from to = (k : ℕ) → from ≤ k → k < to → is_extra_escape_byte (get_or xs k 0) ≡ true

is_clear : (b : Bool) → cond {A = ℕ} b 1 0 ≡ 0 → b ≡ false
is_clear true h = absurd (omega arith)
is_clear false h = refl

-- If each byte that needs an escape has a bit in the mask, a byte without a bit needs none.
pub own_escape-from_bit : (d : List ℕ) (i n : ℕ) (z : List ℕ) → i + n ≤ length d → n ≤ 64
    → ((k : ℕ) → Fits w8 (get_or d k 0)) → (f : ℕ → ℕ) → z ≡ map f (chunk i n d)
    → agree_below (λ x. top 7 (f x) || is_extra_escape_byte x) (λ _. true) 256 ≡ true → (k : ℕ) → k < n
    → bit_at (mask_l (map (top 7) z) % 2 ^ 64) k ≡ 0 → is_extra_escape_byte (get_or d (i + k) 0) ≡ true
own_escape-from_bit d i n z room few fits f lanes all k low clear =
    let v = chunk i n d in
    let stop = λ (x : ℕ). top 7 (f x) in
    let long : length v ≡ n = length-chunk i n d room in
    let mask : mask_l (map (top 7) z) % 2 ^ 64 ≡ mask_l (map stop v) =
    ap (λ l. mask_l l % 2 ^ 64) (ap (map (top 7)) lanes ∙ map-map (top 7) f v)
    ∙ mask_l-mod (map stop v) 64 (omega (arith, length-map v stop, long)) in
    let bit : cond {A = ℕ} (get_or (map stop v) k false) 1 0 ≡ 0 =
    sym (bit_mask_l (map stop v) k) ∙ sym (ap (λ m. bit_at m k) mask) ∙ clear in
    let lane : get_or (map stop v) k false ≡ stop (get_or v k 0) = get_or-map stop v k 0 false (omega (arith, long)) in
    let goes : stop (get_or d (i + k) 0) ≡ false =
    sym (ap stop (get_or-chunk i n d k 0 low)) ∙ sym lane ∙ is_clear _ bit in
    sym (ap (λ b. b || is_extra_escape_byte (get_or d (i + k) 0)) goes)
    ∙ agree_below_at (λ x. stop x || is_extra_escape_byte x) (λ _. true) 256 (get_or d (i + k) 0) all (fits (i + k)).fits

-- If a mask is empty after a shift down, it has no bits from there on.
pub no_bit_from : (m by k : ℕ) → m / 2 ^ by ≡ 0 → by ≤ k → bit_at m k ≡ 0
no_bit_from m by k none past =
    bit_at_above m by k (small m (2 ^ by) (pow_pos by) none) past
  where
    small : (m p : ℕ) → 0 < p → m / p ≡ 0 → m < p
    small m p pos none = grind (arith, div-add-mod' m p)

-- Eight more bytes. The bytes that were not checked before have no bit in the mask.
pub AreOwnEscapesIn-eight : (d : List ℕ) (from seen at to m : ℕ) → at ≤ seen → to ≡ at + 8 → AreOwnEscapesIn d from seen
    → ((k : ℕ) → k < 8 → bit_at m k ≡ 0 → is_extra_escape_byte (get_or d (at + k) 0) ≡ true)
    → ((k : ℕ) → seen ≤ at + k → bit_at m k ≡ 0) → AreOwnEscapesIn d from to
AreOwnEscapesIn-eight d from seen at to m met end before eight clear k low high =
    ⊎_elim (λ l. before k low l) (λ past.
    let place : at + (k - at) ≡ k = omega arith in
    subst (λ j. is_extra_escape_byte (get_or d j 0) ≡ true) place
    (eight (k - at) (omega arith) (clear (k - at) (omega arith)))) (cases_lt k seen)

-- If no byte needs an escape, the text needs none.
pub is_extra_escape-from_bytes : (d : List ℕ) → AreOwnEscapesIn d 0 (length d) → is_extra_escape d ≡ true
is_extra_escape-from_bytes [] h = refl
is_extra_escape-from_bytes (c ∷ cs) h =
    rw (h 0 (omega arith) (omega arith), is_extra_escape-from_bytes cs (λ k low high. h (suc k) (omega arith) (omega arith))) refl

-- The same for the bytes from a place on.
pub is_extra_escape-from_place : (d : List ℕ) (from : ℕ) → AreOwnEscapesIn d from (length d)
    → is_extra_escape (drop from d) ≡ true
is_extra_escape-from_place d from h =
    is_extra_escape-from_bytes (drop from d) (λ k low high. ap is_extra_escape_byte (get_or-drop from d k 0)
    ∙ h (from + k) (omega arith) (omega (arith, length-drop from d)))
