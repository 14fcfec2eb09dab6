-- The lines of an input, byte by byte and as its parts.
use Rattle.std.proofs.Common.{◌≡◌, ℕ, ◌==◌, List, [], ◌∷◌, ◌++◌, length, refl, sym, ap, ◌∙◌, append_assoc}
use Rattle.std.proofs.Common.{append-nil, ne_eqb, arith}
use Rattle.std.specs.Prelude.{◌≢◌, ◌<◌}
use Rattle.std.specs.List.{AllByRecursion, flat_map, slice_split, onto_first}
use Rattle.std.proofs.lemmas.List.{flat_map_more}
use Rattle.std.proofs.lemmas.List.Splits.{slice_split-cons_yes, slice_split-cons_no}
use Rattle.cedar_repl.specs.Heard.{Heard, IsHeard, IsUnbroken, ended, all_lines}

-- A property of each element and of one more.
all_then : {X : Type 0} (P : X → Type 0) (xs : List X) (x : X) → AllByRecursion P xs → P x
    → AllByRecursion P (xs ++ x ∷ [])
all_then P [] x a p = (p, tt)
all_then P (y ∷ xs) x a p = (a.0, all_then P xs x a.1 p)

-- A byte that is not a line feed is appended to the incomplete line.
pub byte_heard : (xs : List ℕ) (h : Heard) (b : ℕ) → b ≢ 10 → IsHeard xs h
    → IsHeard (xs ++ b ∷ []) (record { lines = h.lines; part = h.part ++ b ∷ [] })
byte_heard xs h b n is = record {
  whole = ap (λ ys. ys ++ b ∷ []) is.whole ∙ append_assoc (flat_map ended h.lines) h.part (b ∷ []);
  each = is.each;
  rest = all_then (λ c. c ≢ 10) h.part b is.rest n;
}

-- A line feed completes the line.
pub feed_heard : (xs : List ℕ) (h : Heard) → IsHeard xs h
    → IsHeard (xs ++ 10 ∷ []) (record { lines = h.lines ++ h.part ∷ []; part = [] })
feed_heard xs h is = record {
  whole = ap (λ ys. ys ++ 10 ∷ []) is.whole ∙ append_assoc (flat_map ended h.lines) h.part (10 ∷ [])
      ∙ flat_map_more ended [] h.lines h.part ∙ sym (append-nil (flat_map ended (h.lines ++ h.part ∷ [])));
  each = all_then IsUnbroken h.lines h.part is.each is.rest;
  rest = tt;
}

-- An incomplete line that is not empty is the last line.
pub last_line : (h : Heard) → 0 < length h.part → all_lines h ≡ h.lines ++ h.part ∷ []
last_line h k = there h.lines h.part k where
  there : (lines : List (List ℕ)) (part : List ℕ) → 0 < length part
      → all_lines (record { lines = lines; part = part }) ≡ lines ++ part ∷ []
  there lines [] k = absurd (omega (arith, k))
  there lines (b ∷ bs) k = refl

-- ---- The parts between line feeds

part_ends : (line rest : List ℕ) → IsUnbroken line
    → slice_split (λ b. b == 10) (line ++ 10 ∷ rest) ≡ line ∷ slice_split (λ b. b == 10) rest
part_ends [] rest a = slice_split-cons_yes (λ b. b == 10) 10 rest refl
part_ends (b ∷ line) rest a = slice_split-cons_no (λ b. b == 10) b (line ++ 10 ∷ rest) (ne_eqb b 10 a.0)
    ∙ ap (onto_first b) (part_ends line rest a.1)

part_stays : (line : List ℕ) → IsUnbroken line → slice_split (λ b. b == 10) line ≡ line ∷ []
part_stays [] a = refl
part_stays (b ∷ line) a = slice_split-cons_no (λ b. b == 10) b line (ne_eqb b 10 a.0)
    ∙ ap (onto_first b) (part_stays line a.1)

-- Completed lines are the first parts.
lines_end : (lines : List (List ℕ)) (rest : List ℕ) → AllByRecursion IsUnbroken lines
    → slice_split (λ b. b == 10) (flat_map ended lines ++ rest) ≡ lines ++ slice_split (λ b. b == 10) rest
lines_end [] rest a = refl
lines_end (line ∷ lines) rest a =
    ap (slice_split (λ b. b == 10)) (append_assoc (ended line) (flat_map ended lines) rest
    ∙ append_assoc line (10 ∷ []) (flat_map ended lines ++ rest))
    ∙ part_ends line (flat_map ended lines ++ rest) a.0 ∙ ap (λ ps. line ∷ ps) (lines_end lines rest a.1)

-- The parts of the received bytes are the lines and the incomplete line.
pub heard_parts : (xs : List ℕ) (h : Heard) → IsHeard xs h → slice_split (λ b. b == 10) xs ≡ h.lines ++ h.part ∷ []
heard_parts xs h is =
    ap (slice_split (λ b. b == 10)) is.whole ∙ lines_end h.lines h.part is.each
    ∙ ap (λ ps. h.lines ++ ps) (part_stays h.part is.rest)

-- After a line feed, further parts follow.
pub parts_go_on : (xs : List ℕ) (h : Heard) (rest : List ℕ) → IsHeard xs h
    → slice_split (λ b. b == 10) ((xs ++ 10 ∷ []) ++ rest) ≡ h.lines ++ h.part ∷ slice_split (λ b. b == 10) rest
parts_go_on xs h rest is =
    ap (slice_split (λ b. b == 10)) (append_assoc xs (10 ∷ []) rest ∙ ap (λ ys. ys ++ 10 ∷ rest) is.whole
    ∙ append_assoc (flat_map ended h.lines) h.part (10 ∷ rest))
    ∙ lines_end h.lines (h.part ++ 10 ∷ rest) is.each ∙ ap (λ ps. h.lines ++ ps) (part_ends h.part rest is.rest)
