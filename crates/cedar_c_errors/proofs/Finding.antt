-- The position of the uid at an index, after the words and the uids before it.
use Rattle.std.proofs.Common.{◌≡◌, ◌≢◌, ◌≤◌, ℕ, zero, suc, ◌+◌, ◌-◌, List, [], ◌∷◌, ◌++◌, refl, sym, ap, ◌∙◌, arith}
use Rattle.std.proofs.Common.{append_assoc, length, drop, take, subst, true, false, inl, inr}
use Rattle.std.proofs.lemmas.Bool.Decides.{eqb_tells}
use Rattle.std.proofs.Math.Seq.{drop-append_seam, take-append_seam}
use Rattle.std.proofs.lemmas.List.{length-append, length-drop}
use Rattle.std.proofs.Math.Seq.{take-length}
use Rattle.std.specs.Prelude.{slice_range, ◌==◌}
use Rattle.std.specs.List.{flat_map}
use Rattle.cedar_ids.specs.Printed.{printed_uid}
use Rattle.cedar_ids.specs.UidOf.{uid_parts}
use Rattle.cedar_ids.specs.declared.entity.EntityUID.{EntityUID}
use Rattle.cedar_c_lists.specs.Answers.{part}
use Rattle.cedar_c_lists.specs.Texts.{IsInside, spaced}
use Rattle.cedar_c_lists.specs.declared.layout.Span.{Span}
use Rattle.cedar_c_errors.specs.Named.{AreWritten, IsNameIn, IsUidIn}
use Rattle.cedar_c_errors.specs.laws.Scans.{after, after_uid, after_uids}
use Rattle.cedar_c_errors.proofs.Scanning.{uid_passed}

-- The first uid is skipped first.
one_first : (k : ℕ) (t : List ℕ) → after_uids (suc k) t ≡ after_uids k (after_uid t)
unfolding after_uids
one_first zero t = refl
one_first (suc k) t = ap after_uid (one_first k t)

-- After an empty text there is nothing.
pub nothing_behind : (k : ℕ) → after_uids k [] ≡ []
unfolding after_uids after
nothing_behind zero = refl
nothing_behind (suc k) = ap after_uid (nothing_behind k)

-- If nothing is left, nothing is left further on.
pub nothing_further : (k i : ℕ) (t : List ℕ) → i ≤ k → after_uids i t ≡ [] → after_uids k t ≡ []
unfolding after_uids
nothing_further k zero t l h = ap (after_uids k) h ∙ nothing_behind k
nothing_further zero (suc i) t l h = absurd (omega arith)
nothing_further (suc k) (suc i) t l h =
    one_first k t ∙ nothing_further k i (after_uid t) (omega arith) (sym (one_first i t) ∙ h)

-- That many uids are skipped.
uids_passed : (k : ℕ) (us : List EntityUID) → AreWritten us
    → after_uids k (flat_map spaced us) ≡ flat_map spaced (drop k us)
unfolding after_uids
uids_passed zero us w = refl
uids_passed (suc k) [] w = nothing_behind (suc k)
uids_passed (suc k) (u ∷ us) w =
    one_first k (flat_map spaced (u ∷ us))
    ∙ ap (after_uids k) (uid_passed u (flat_map spaced us) w.0)
    ∙ uids_passed k us w.1

-- If nothing is left, there are no more uids.
pub none_left : (k : ℕ) (us : List EntityUID) → AreWritten us → after_uids k (flat_map spaced us) ≡ []
    → length us ≤ k
unfolding after_uids
none_left k [] w h = omega arith
none_left zero (u ∷ us) w h = absurd (cc)
none_left (suc k) (u ∷ us) w h =
    let more : length us ≤ k = none_left k us w.1 (
    sym (ap (after_uids k) (uid_passed u (flat_map spaced us) w.0))
    ∙ sym (one_first k (flat_map spaced (u ∷ us))) ∙ h) in omega arith

one_more : (n : ℕ) → suc n ≡ 1 + n
one_more n = omega arith

-- The length of a uid's text with the blank before it and the text after it.
spaced_length : (u : EntityUID) (rest : List ℕ)
    → length (spaced u ++ rest) ≡ 1 + length (printed_uid (uid_parts u)) + length rest
spaced_length u rest =
    length-append (spaced u) rest ∙ ap (λ n. n + length rest) (one_more (length (printed_uid (uid_parts u))))

-- The text between some bytes and others.
pub part_behind : (pre t rest : List ℕ) (s : Span) → s.start ≡ length pre → s.end ≡ length pre + length t
    → part (pre ++ (t ++ rest)) s ≡ t
part_behind pre t rest s start end =
    rw (start, end) (
    ap (λ n. take n (drop (length pre) (pre ++ (t ++ rest)))) (minus_plus (length pre) (length t))
    ∙ ap (take (length t)) (drop-append_seam pre (t ++ rest))
    ∙ take-append_seam t rest)
  where
    minus_plus : (n m : ℕ) → (n + m) - n ≡ m
    minus_plus n m = omega arith

-- The first of the uids after the words.
first_found : (words : List ℕ) (u : EntityUID) (rest : List ℕ) (s : Span)
    → s.start ≡ length words + 1
    → s.end ≡ length words + 1 + length (printed_uid (uid_parts u))
    → IsInside (words ++ (spaced u ++ rest)) s × (part (words ++ (spaced u ++ rest)) s ≡ printed_uid (uid_parts u))
first_found words u rest s start end =
    let p = printed_uid (uid_parts u) in
    let whole : length (words ++ (spaced u ++ rest)) ≡ length words + (1 + length p + length rest) =
    length-append words (spaced u ++ rest) ∙ ap (λ n. length words + n) (spaced_length u rest) in
    let all : (words ++ (32 ∷ [])) ++ (p ++ rest) ≡ words ++ (spaced u ++ rest) =
    append_assoc words (32 ∷ []) (p ++ rest) in
    let front : length (words ++ (32 ∷ [])) ≡ length words + 1 = length-append words (32 ∷ []) in (
      (omega arith, omega arith),
      ap (λ t. part t s) (sym all)
          ∙ part_behind (words ++ (32 ∷ [])) p rest s (start ∙ sym front) (end ∙ ap (λ n. n + length p) (sym front)),
    )

-- The same for an equal text.
moved : (u : EntityUID) (s : Span) (t t' : List ℕ) → t ≡ t' → IsInside t s × (part t s ≡ printed_uid (uid_parts u))
    → IsInside t' s × (part t' s ≡ printed_uid (uid_parts u))
moved u s t t' e h = subst (λ t. IsInside t s × (part t s ≡ printed_uid (uid_parts u))) e h

-- The uid at an index.
pub uid_found : (k : ℕ) (words : List ℕ) (us : List EntityUID) (s : Span) → AreWritten us
    → after_uids k (flat_map spaced us) ≢ []
    → s.start + length (after_uids k (flat_map spaced us)) ≡ length (words ++ flat_map spaced us) + 1
    → s.end + length (after_uid (after_uids k (flat_map spaced us))) ≡ length (words ++ flat_map spaced us)
    → IsUidIn (words ++ flat_map spaced us) us k s
unfolding after_uids
uid_found k words [] s w some start end = absurd (some (nothing_behind k))
uid_found zero words (u ∷ us) s w some start end =
    let rest = flat_map spaced us in
    let p = printed_uid (uid_parts u) in
    let whole : length (words ++ (spaced u ++ rest)) ≡ length words + (1 + length p + length rest) =
    length-append words (spaced u ++ rest) ∙ ap (λ n. length words + n) (spaced_length u rest) in
    let here : length (spaced u ++ rest) ≡ 1 + length p + length rest = spaced_length u rest in
    let behind : length (after_uid (spaced u ++ rest)) ≡ length rest = ap length (uid_passed u rest w.0) in
    let f = first_found words u rest s (omega arith) (omega arith) in (u, refl, f.0, f.1)
uid_found (suc k) words (u ∷ us) s w some start end =
    let rest = flat_map spaced us in
    let same : after_uids (suc k) (spaced u ++ rest) ≡ after_uids k rest =
    one_first k (spaced u ++ rest) ∙ ap (after_uids k) (uid_passed u rest w.0) in
    let joined : (words ++ spaced u) ++ rest ≡ words ++ (spaced u ++ rest) = append_assoc words (spaced u) rest in
    let found = uid_found k (words ++ spaced u) us s w.1 (λ e. some (same ∙ e))
    (ap (λ t. s.start + length t) (sym same) ∙ start ∙ ap (λ t. length t + 1) (sym joined))
    (ap (λ t. s.end + length (after_uid t)) (sym same) ∙ end ∙ ap length (sym joined)) in
    let by = moved found.0 s _ _ joined (found.2, found.3) in (found.0, found.1, by.0, by.1)

no_length : (r : List ℕ) → length r ≡ 0 → r ≡ []
no_length [] h = refl
no_length (x ∷ xs) h = absurd (omega arith)

-- A list of length 0 is empty.
pub empty_of : (r : List ℕ) → true ≡ (length r == 0) → r ≡ []
empty_of r h =
    elim (eqb_tells (length r) 0) as (λ _. r ≡ []) [
      | inl w ↦ no_length r w.1
      | inr w ↦ let no : true ≡ false = h ∙ w.0 in absurd (cc)
    ]

pub filled_of : (r : List ℕ) → false ≡ (length r == 0) → r ≢ []
filled_of [] h = λ e. absurd (cc)
filled_of (x ∷ xs) h = λ e. absurd (cc)

-- If nothing is left before the last uid is skipped, nothing is left after it.
pub empty_further : (k i : ℕ) (t r : List ℕ) → i ≤ k → r ≡ after_uids i t → true ≡ (length r == 0)
    → r ≡ after_uids k t
empty_further k i t r l e h =
    let no : r ≡ [] = empty_of r h in no ∙ sym (nothing_further k i t l (sym e ∙ no))

-- A part up to the end is the text without its beginning.
pub to_end : (from : ℕ) (t : List ℕ) → slice_range t from (length t) ≡ drop from t
to_end from t =
    ap (λ n. take n (drop from t)) (sym (length-drop from t)) ∙ take-length (drop from t)

-- The texts of the names, after the words.
names_of : (words text names : List ℕ) (us : List EntityUID) (from : ℕ) → length words ≡ from
    → text ≡ words ++ flat_map spaced us → names ≡ slice_range text from (length text) → names ≡ flat_map spaced us
names_of words text names us from l t n = n ∙ to_end from text ∙ ap (λ k. drop k text) (sym l) ∙ ap (drop (length words)) t
    ∙ drop-append_seam words (flat_map spaced us)

-- If there are no more uids, nothing is found.
pub none_found : (k from : ℕ) (text names rest : List ℕ) → names ≡ slice_range text from (length text) → rest ≡ after_uids k names
    → true ≡ (length rest == 0)
    → (us : List EntityUID) → AreWritten us → (words : List ℕ) → length words ≡ from
    → text ≡ words ++ flat_map spaced us → length us ≤ k
none_found k from text names rest n r h us w words l t =
    none_left k us w (ap (after_uids k) (sym (names_of words text names us from l t n)) ∙ sym r ∙ empty_of rest h)

-- The result is the uid at the index.
pub one_found : (k from : ℕ) (text names rest behind : List ℕ) → names ≡ slice_range text from (length text) → rest ≡ after_uids k names
    → false ≡ (length rest == 0) → length rest ≤ length names → behind ≡ after_uids 1 rest
    → length behind ≤ length rest
    → (us : List EntityUID) → AreWritten us → (words : List ℕ) → length words ≡ from
    → text ≡ words ++ flat_map spaced us
    → IsUidIn text us k (record { start = length text - length rest + 1; end = length text - length behind })
unfolding after_uids
one_found k from text names rest behind n r h short b less us w words l t =
    let all : names ≡ flat_map spaced us = names_of words text names us from l t n in
    let here : rest ≡ after_uids k (flat_map spaced us) = r ∙ ap (after_uids k) all in
    let next : behind ≡ after_uid (after_uids k (flat_map spaced us)) = b ∙ ap after_uid here in
    let s : Span = record { start = length text - length rest + 1; end = length text - length behind } in
    let whole : length text ≡ length words + length (flat_map spaced us) =
    ap length t ∙ length-append words (flat_map spaced us) in
    let named : length names ≡ length (flat_map spaced us) = ap length all in
    let found = uid_found k words us s w (λ e. filled_of rest h (here ∙ e))
    (ap (λ x. s.start + length x) (sym here) ∙ added (length text) (length rest) (omega arith)
    ∙ ap (λ x. length x + 1) t)
    (ap (λ x. s.end + length x) (sym next) ∙ back (length text) (length behind) (omega arith) ∙ ap length t) in
    let by = moved found.0 s _ _ (sym t) (found.2, found.3) in (found.0, found.1, by.0, by.1)
  where
    added : (a b : ℕ) → b ≤ a → a - b + 1 + b ≡ a + 1
    added a b l = omega arith

    back : (a b : ℕ) → b ≤ a → a - b + b ≡ a
    back a b l = omega arith

-- A single name after the words and a blank.
pub name_found : (from : ℕ) (text name words : List ℕ) → length words ≡ from → text ≡ words ++ (32 ∷ name)
    → IsNameIn text name (record { start = from + 1; end = length text })
name_found from text name words l t =
    let whole : length text ≡ length words + (1 + length name) =
    ap length t ∙ length-append words (32 ∷ name) ∙ ap (λ n. length words + n) (one_more (length name)) in
    let front : length (words ++ (32 ∷ [])) ≡ from + 1 = length-append words (32 ∷ []) ∙ ap (λ n. n + 1) l in
    let all : (words ++ (32 ∷ [])) ++ name ≡ text = append_assoc words (32 ∷ []) name ∙ sym t in (
      (omega arith, omega arith),
      to_end (from + 1) text ∙ ap (drop (from + 1)) (sym all) ∙ ap (λ n. drop n ((words ++ (32 ∷ [])) ++ name)) (sym front)
          ∙ drop-append_seam (words ++ (32 ∷ [])) name,
    )
