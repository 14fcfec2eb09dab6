-- Uids with an ASCII eid and their printed texts correspond one to one.
use Rattle.std.proofs.Common.{◌≡◌, ℕ, List, [], ◌∷◌, ◌++◌, Bool, true, false, ◌&&◌, refl, sym, ap, ◌∙◌, append_assoc}
use Rattle.std.proofs.Common.{Some, Ok, inl, inr, codes, IsTrue}
use Rattle.std.proofs.lemmas.Bool.{false≢true}
use Rattle.std.proofs.lemmas.Bool.Decides.{eqb_tells}
use Rattle.std.proofs.lemmas.List.Folds.{list_all-append}
use Rattle.std.specs.Prelude.{◌==◌, not, nat_eq}
use Rattle.std.specs.Cmp.{first_so, second_so}
use Rattle.std.specs.List.{flat_map, list_all, starts_with}
use Rattle.cedar_ids.specs.Uid.{UidParts}
use Rattle.cedar_ids.specs.Escape.{escaped, is_ascii}
use Rattle.cedar_ids.specs.Printed.{before_mark, printed_name, printed_uid}
use Rattle.cedar_ids.specs.Reading.{is_id, is_id_part}
use Rattle.cedar_ids.specs.laws.UidReading.{first_text, before_quote, uid_halves, uid_reading}
use Rattle.cedar_ids.specs.TextOf.{IsName, IsPrinted}
use Rattle.cedar_ids.specs.laws.EscapeLaws.{eid_of-escaped}
use Rattle.cedar_ids.specs.laws.NameTextLaws.{name_of-printed, id_parts}

-- ---- The text before a final quote, and before the first mark

before_quote-end : (x : List ℕ) → before_quote (x ++ 34 ∷ []) ≡ Some x
unfolding before_quote
before_quote-end [] = refl
before_quote-end (b ∷ []) = refl
before_quote-end (b ∷ c ∷ bs) = rw (before_quote-end (c ∷ bs)) refl

pub halves_quote : (s x : List ℕ) → s ≡ x ++ 34 ∷ [] → first_text (codes "::\"") x ≡ uid_halves s
unfolding uid_halves
halves_quote s x e = rw (e, before_quote-end x) refl

unfoldable pub no_quote : ℕ → Bool
no_quote b = not (34 == b)

not_not : (b : Bool) → not b ≡ true → b ≡ false
not_not true h = absurd (cc)
not_not false h = refl

quote_not : (b : ℕ) → no_quote b ≡ true → (34 == b) ≡ false
unfolding no_quote
quote_not b h = not_not (34 == b) h

and_false : (a b : Bool) → (a && (b && false)) ≡ false
and_false true true = refl
and_false true false = refl
and_false false b = refl

-- A mark `::"` does not begin at `b` if the third byte is not a quote.
no_start : (b c d : ℕ) (bs : List ℕ) → (34 == d) ≡ false → starts_with nat_eq (b ∷ c ∷ d ∷ bs) (codes "::\"") ≡ false
no_start b c d bs h = rw h (and_false _ _)

pub first_text-found : (x rest : List ℕ) → list_all no_quote x ≡ true
    → first_text (codes "::\"") (x ++ (codes "::\"" ++ rest)) ≡ Some (x, rest)
unfolding first_text
first_text-found [] rest h = refl
first_text-found (b ∷ []) rest h = rw (no_start b 58 58 (34 ∷ rest) refl) refl
first_text-found (b ∷ c ∷ []) rest h =
    rw (
      no_start b c 58 (58 ∷ 34 ∷ rest) refl,
      first_text-found (c ∷ []) rest (second_so (no_quote b) (list_all no_quote (c ∷ [])) h),
    ) refl
first_text-found (b ∷ c ∷ d ∷ bs) rest h =
    let k : list_all no_quote (c ∷ d ∷ bs) ≡ true = second_so (no_quote b) (list_all no_quote (c ∷ d ∷ bs)) h in
    let m : list_all no_quote (d ∷ bs) ≡ true = second_so (no_quote c) (list_all no_quote (d ∷ bs)) k in
    rw (
      no_start b c d (bs ++ (58 ∷ 58 ∷ 34 ∷ rest)) (quote_not d (first_so (no_quote d) (list_all no_quote bs) m)),
      first_text-found (c ∷ d ∷ bs) rest k,
    ) refl

part_no_quote : (b : ℕ) → is_id_part b ≡ true → no_quote b ≡ true
unfolding no_quote
part_no_quote b h = elim (eqb_tells 34 b) as (λ _. not (34 == b) ≡ true)
    [ inl w ↦ absurd (false≢true (ap is_id_part w.1 ∙ h)) | inr w ↦ rw w.0 refl ]

pub parts_no_quote : (c : List ℕ) → list_all is_id_part c ≡ true → list_all no_quote c ≡ true
parts_no_quote [] h = refl
parts_no_quote (b ∷ bs) h =
    rw (
      part_no_quote b (first_so (is_id_part b) (list_all is_id_part bs) h),
      parts_no_quote bs (second_so (is_id_part b) (list_all is_id_part bs) h),
    ) refl

pub marks_no_quote : (p : List (List ℕ)) (rest : List ℕ) → list_all is_id p ≡ true → list_all no_quote rest ≡ true
    → list_all no_quote (flat_map before_mark p ++ rest) ≡ true
unfolding no_quote
marks_no_quote [] rest h k = k
marks_no_quote (c ∷ cs) rest h k =
    let i : is_id c ≡ true = first_so (is_id c) (list_all is_id cs) h in
    let j : list_all is_id cs ≡ true = second_so (is_id c) (list_all is_id cs) h in
    ap (list_all no_quote) (append_assoc (before_mark c) (flat_map before_mark cs) rest
    ∙ append_assoc c (58 ∷ 58 ∷ []) (flat_map before_mark cs ++ rest))
    ∙ list_all-append no_quote c (58 ∷ 58 ∷ (flat_map before_mark cs ++ rest))
    ∙ rw (parts_no_quote c (id_parts c i), marks_no_quote cs rest j k) refl

pub halves-printed : (u : UidParts) → IsName u.name → uid_halves (printed_uid u)
    ≡ Some (printed_name u.name, escaped u.eid)
halves-printed u h =
    sym (halves_quote (printed_uid u) (printed_name u.name ++ (codes "::\"" ++ escaped u.eid))
    (sym (append_assoc (printed_name u.name) (codes "::\"" ++ escaped u.eid) (34 ∷ []))))
    ∙ first_text-found (printed_name u.name) (escaped u.eid)
    (marks_no_quote u.name.path u.name.basename h.0 (parts_no_quote u.name.basename (id_parts u.name.basename h.1)))

-- The printed text of a uid parses to that uid.
pub uid_reading-printed : (u : UidParts) (t : List ℕ) → IsPrinted u t → uid_reading t ≡ Ok (Some u)
unfolding uid_reading
uid_reading-printed u t h = rw (h.2, halves-printed u h.0, name_of-printed u.name h.0, eid_of-escaped u.eid h.1) refl

-- ---- The laws

-- Every uid with a valid name and an ASCII eid has a printed text.
pub printed_uid_has_text : (u : UidParts) → IsName u.name → IsTrue (is_ascii u.eid) → IsPrinted u (printed_uid u)
printed_uid_has_text u n e = (n, e, refl)

-- A uid has only one printed text.
pub printed_text_unique : (u : UidParts) (s t : List ℕ) → IsPrinted u s → IsPrinted u t → s ≡ t
printed_text_unique u s t h k = h.2 ∙ sym k.2

-- No text is the printed text of two uids.
pub printed_uid_injective : (u v : UidParts) (t : List ℕ) → IsPrinted u t → IsPrinted v t → u ≡ v
printed_uid_injective u v t h k =
    let i : uid_reading t ≡ Ok (Some u) = uid_reading-printed u t h in
    let j : uid_reading t ≡ Ok (Some v) = uid_reading-printed v t k in
    cc
