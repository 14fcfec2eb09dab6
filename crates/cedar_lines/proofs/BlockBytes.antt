-- Conclusions from an empty mask of invalid bytes.
use Rattle.std.proofs.Common.{◌≡◌, ℕ, ◌+◌, ◌%◌, ◌^◌, ◌≤◌, true, ◌||◌, ◌==◌, List, map, length, get_or, Fits, w8, sym, ap, ◌∙◌, arith}
use Rattle.std.proofs.lemmas.Bool.{agree_below, agree_below_at, eqb-true}
use Rattle.std.proofs.lemmas.Simd.{map-map, mask_l-mod, length-chunk, none_from_empty_mask}
use Rattle.std.proofs.lemmas.List.{length-map}
use lib.Lanes.{chunk, mask_l, top}
use Rattle.cedar_lines.specs.Lines.{is_line_byte, HasLineBytesIn}

-- If the mask is empty and each invalid byte has a bit in it, all bytes of the block are valid.
pub HasLineBytesIn-from_mask : (d : List ℕ) (i n : ℕ) (z : List ℕ) → i + n ≤ length d → n ≤ 64
    → ((k : ℕ) → Fits w8 (get_or d k 0)) → (mask_l (map (top 7) z) % 2 ^ 64 == 0) ≡ true
    → (f : ℕ → ℕ) → z ≡ map f (chunk i n d)
    → agree_below (λ x. top 7 (f x) || is_line_byte x) (λ _. true) 256 ≡ true → HasLineBytesIn d i (i + n)
HasLineBytesIn-from_mask d i n z room few fits none f lanes all k from to =
    let v = chunk i n d in
    let stop = λ (x : ℕ). top 7 (f x) in
    let mask : mask_l (map (top 7) z) % 2 ^ 64 ≡ mask_l (map stop v) =
    ap (λ l. mask_l l % 2 ^ 64) (ap (map (top 7)) lanes ∙ map-map (top 7) f v)
    ∙ mask_l-mod (map stop v) 64 (omega (arith, length-map v stop, length-chunk i n d room)) in
    let clear = none_from_empty_mask stop d i n 0 room (sym mask ∙ eqb-true _ 0 none) k from to in
    sym (ap (λ b. b || is_line_byte (get_or d k 0)) clear)
    ∙ agree_below_at (λ x. stop x || is_line_byte x) (λ _. true) 256 (get_or d k 0) all (fits k).fits
