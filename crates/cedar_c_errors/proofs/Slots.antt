-- The position of the slot at an index, after the words and the slots before it.
use Rattle.std.proofs.Common.{◌≡◌, ◌≢◌, ◌≤◌, ℕ, zero, suc, ◌+◌, ◌-◌, List, [], ◌∷◌, ◌++◌, refl, sym, ap, ◌∙◌, arith}
use Rattle.std.proofs.Common.{append_assoc, length, drop, subst, true, false, Bool, not, codes, map}
use Rattle.std.proofs.Math.Seq.{drop-append_seam}
use Rattle.std.proofs.lemmas.List.{length-append, append-nil}
use Rattle.std.specs.Cmp.{first_so, second_so}
use Rattle.std.specs.Prelude.{slice_get, slice_range, ◌==◌}
use Rattle.std.specs.List.{flat_map, list_all}
use Rattle.cedar_binding.specs.BindingTexts.{arity_text, slot_after_comma, slots_text, further_extra_text}
use Rattle.cedar_terms.specs.SlotTree.{slot_text}
use Rattle.cedar_terms.specs.declared.slot.SlotId.{SlotId}
use Rattle.cedar_terms.specs.declared.slot.SlotId.TheVariants.{Principal, Action, Resource}
use Rattle.cedar_c_lists.specs.Answers.{part}
use Rattle.cedar_c_lists.specs.Texts.{IsInside}
use Rattle.cedar_c_lists.specs.declared.layout.Span.{Span}
use Rattle.cedar_c_errors.specs.Named.{IsSlotIn}
use Rattle.cedar_c_errors.specs.laws.Marks.{after_slots, behind_letters, after_slot, from_mark, is_small}
use Rattle.cedar_c_errors.proofs.Finding.{empty_of, filled_of, part_behind, to_end}

-- The first slot is skipped first.
one_first : (k : ℕ) (t : List ℕ) → after_slots (suc k) t ≡ after_slots k (after_slot (from_mark t))
unfolding after_slots
one_first zero t = refl
one_first (suc k) t = ap (λ x. after_slot (from_mark x)) (one_first k t)

-- After an empty text there is nothing.
nothing_behind : (k : ℕ) → after_slots k [] ≡ []
unfolding after_slots from_mark behind_letters
nothing_behind zero = refl
nothing_behind (suc k) = ap (λ x. after_slot (from_mark x)) (nothing_behind k)

-- If nothing is left, nothing is left further on.
pub nothing_further : (k i : ℕ) (t : List ℕ) → i ≤ k → after_slots i t ≡ [] → after_slots k t ≡ []
unfolding after_slots
nothing_further k zero t l h = ap (after_slots k) h ∙ nothing_behind k
nothing_further zero (suc i) t l h = absurd (omega arith)
nothing_further (suc k) (suc i) t l h =
    one_first k t ∙ nothing_further k i (after_slot (from_mark t)) (omega arith) (sym (one_first i t) ∙ h)

-- Whether a text has no mark.
has_none : List ℕ → Bool
has_none t = list_all (λ c. not (c == 63)) t

not_true : (b : Bool) → not b ≡ true → b ≡ false
not_true true h = absurd (cc)
not_true false h = refl

mark_behind : (g r : List ℕ) → has_none g ≡ true → from_mark (g ++ r) ≡ from_mark r
unfolding has_none from_mark
mark_behind [] r h = refl
mark_behind (c ∷ cs) r h =
    rw (not_true (c == 63) (first_so (not (c == 63)) (list_all (λ c. not (c == 63)) cs) h))
    (mark_behind cs r (second_so (not (c == 63)) (list_all (λ c. not (c == 63)) cs) h))

-- Whether a text does not begin with a letter.
starts_apart : List ℕ → Bool
starts_apart [] = true
starts_apart (c ∷ cs) = not (is_small c)

no_letters : (r : List ℕ) → starts_apart r ≡ true → behind_letters r ≡ r
unfolding starts_apart behind_letters
no_letters [] h = refl
no_letters (c ∷ cs) h = rw (not_true (is_small c) h) refl

slot_passed : (s : SlotId) (r : List ℕ) → starts_apart r ≡ true → after_slot (slot_text s ++ r) ≡ r
unfolding behind_letters
slot_passed Principal r h = no_letters r h
slot_passed Action r h = no_letters r h
slot_passed Resource r h = no_letters r h

slot_marked : (s : SlotId) (r : List ℕ) → from_mark (slot_text s ++ r) ≡ slot_text s ++ r
unfolding from_mark
slot_marked Principal r = refl
slot_marked Action r = refl
slot_marked Resource r = refl

-- Slots, each with the text before it.
abbrev Piece : Type 0
Piece = List ℕ × SlotId

laid : List Piece → List ℕ → List ℕ
laid [] tail = tail
laid (p ∷ ps) tail = p.0 ++ (slot_text p.1 ++ laid ps tail)

-- Holds if no mark is between the slots, and no letter directly follows a slot.
IsFine : List Piece → List ℕ → Type 0
IsFine [] tail = has_none tail ≡ true
IsFine (p ∷ ps) tail = (has_none p.0 ≡ true) × (starts_apart (laid ps tail) ≡ true) × IsFine ps tail

first_marked : (p : Piece) (ps : List Piece) (tail : List ℕ) → IsFine (p ∷ ps) tail
    → from_mark (laid (p ∷ ps) tail) ≡ slot_text p.1 ++ laid ps tail
unfolding laid IsFine
first_marked p ps tail f =
    mark_behind p.0 (slot_text p.1 ++ laid ps tail) f.0 ∙ slot_marked p.1 (laid ps tail)

first_passed : (p : Piece) (ps : List Piece) (tail : List ℕ) → IsFine (p ∷ ps) tail
    → after_slot (from_mark (laid (p ∷ ps) tail)) ≡ laid ps tail
unfolding IsFine
first_passed p ps tail f = ap after_slot (first_marked p ps tail f) ∙ slot_passed p.1 (laid ps tail) f.1

-- The rest has no mark.
unmarked : (tail : List ℕ) → has_none tail ≡ true → from_mark tail ≡ []
unfolding from_mark
unmarked tail h = ap from_mark (sym (append-nil tail)) ∙ mark_behind tail [] h

-- The rest has no slot.
none_in_tail : (k : ℕ) (tail : List ℕ) → has_none tail ≡ true → from_mark (after_slots k tail) ≡ []
unfolding after_slots from_mark behind_letters
none_in_tail zero tail h = unmarked tail h
none_in_tail (suc k) tail h =
    ap from_mark (one_first k tail
    ∙ ap (λ x. after_slots k (after_slot x)) (unmarked tail h) ∙ nothing_behind k)

slot_is_some : (s : SlotId) (r : List ℕ) → slot_text s ++ r ≢ []
slot_is_some Principal r = λ e. absurd (cc)
slot_is_some Action r = λ e. absurd (cc)
slot_is_some Resource r = λ e. absurd (cc)

-- If no mark is left, there are no more slots.
none_left : (k : ℕ) (ps : List Piece) (tail : List ℕ) → IsFine ps tail
    → from_mark (after_slots k (laid ps tail)) ≡ [] → length ps ≤ k
unfolding after_slots IsFine
none_left k [] tail f h = omega arith
none_left zero (p ∷ ps) tail f h = absurd (slot_is_some p.1 (laid ps tail) (sym (first_marked p ps tail f) ∙ h))
none_left (suc k) (p ∷ ps) tail f h =
    let more : length ps ≤ k = none_left k ps tail f.2 (
    ap from_mark (sym (one_first k (laid (p ∷ ps) tail) ∙ ap (after_slots k) (first_passed p ps tail f))) ∙ h) in
    omega arith

slots_of : List Piece → List SlotId
slots_of [] = []
slots_of (p ∷ ps) = p.1 ∷ slots_of ps

-- The same for an equal text.
moved : (x : SlotId) (s : Span) (t t' : List ℕ) → t ≡ t' → IsInside t s × (part t s ≡ slot_text x)
    → IsInside t' s × (part t' s ≡ slot_text x)
moved x s t t' e h = subst (λ t. IsInside t s × (part t s ≡ slot_text x)) e h

first_found : (words : List ℕ) (x : SlotId) (rest : List ℕ) (s : Span)
    → s.start ≡ length words → s.end ≡ length words + length (slot_text x)
    → IsInside (words ++ (slot_text x ++ rest)) s × (part (words ++ (slot_text x ++ rest)) s ≡ slot_text x)
first_found words x rest s start end =
    let whole : length (words ++ (slot_text x ++ rest)) ≡ length words + (length (slot_text x) + length rest) =
    length-append words (slot_text x ++ rest) ∙ ap (λ n. length words + n) (length-append (slot_text x) rest) in
    ((omega arith, omega arith), part_behind words (slot_text x) rest s start end)

-- The slot at an index.
slot_found : (k : ℕ) (words : List ℕ) (ps : List Piece) (tail : List ℕ) (s : Span) → IsFine ps tail
    → from_mark (after_slots k (laid ps tail)) ≢ []
    → s.start + length (from_mark (after_slots k (laid ps tail))) ≡ length (words ++ laid ps tail)
    → s.end + length (after_slot (from_mark (after_slots k (laid ps tail)))) ≡ length (words ++ laid ps tail)
    → IsSlotIn (words ++ laid ps tail) (slots_of ps) k s
unfolding after_slots IsFine laid slots_of
slot_found k words [] tail s f some start end = absurd (some (none_in_tail k tail f))
slot_found zero words (p ∷ ps) tail s f some start end =
    let rest = laid ps tail in
    let x = slot_text p.1 in
    let joined : (words ++ p.0) ++ (x ++ rest) ≡ words ++ (p.0 ++ (x ++ rest)) = append_assoc words p.0 (x ++ rest) in
    let whole : length (words ++ (p.0 ++ (x ++ rest))) ≡ length (words ++ p.0) + (length x + length rest) =
    ap length (sym joined) ∙ length-append (words ++ p.0) (x ++ rest)
    ∙ ap (λ n. length (words ++ p.0) + n) (length-append x rest) in
    let here : length (from_mark (laid (p ∷ ps) tail)) ≡ length x + length rest =
    ap length (first_marked p ps tail f) ∙ length-append x rest in
    let behind : length (after_slot (from_mark (laid (p ∷ ps) tail))) ≡ length rest =
    ap length (first_passed p ps tail f) in
    let found = moved p.1 s _ _ joined (first_found (words ++ p.0) p.1 rest s (omega arith) (omega arith)) in
    (p.1, refl, found.0, found.1)
slot_found (suc k) words (p ∷ ps) tail s f some start end =
    let rest = laid ps tail in
    let x = slot_text p.1 in
    let same : after_slots (suc k) (laid (p ∷ ps) tail) ≡ after_slots k rest =
    one_first k (laid (p ∷ ps) tail) ∙ ap (after_slots k) (first_passed p ps tail f) in
    let joined : (words ++ (p.0 ++ x)) ++ rest ≡ words ++ (p.0 ++ (x ++ rest)) =
    append_assoc words (p.0 ++ x) rest ∙ ap (λ t. words ++ t) (append_assoc p.0 x rest) in
    let found = slot_found k (words ++ (p.0 ++ x)) ps tail s f.2 (λ e. some (ap from_mark same ∙ e))
    (ap (λ t. s.start + length (from_mark t)) (sym same) ∙ start ∙ ap length (sym joined))
    (ap (λ t. s.end + length (after_slot (from_mark t))) (sym same) ∙ end ∙ ap length (sym joined)) in
    let by = moved found.0 s _ _ joined (found.2, found.3) in (found.0, found.1, by.0, by.1)

-- ---- The text of the slots of an error

after_comma : SlotId → Piece
after_comma s = (codes ",", s)

-- The slots, the first after some bytes and each other after a comma.
pieces : List ℕ → List SlotId → List Piece
pieces g [] = []
pieces g (s ∷ ss) = (g, s) ∷ map after_comma ss

commas_laid : (ss : List SlotId) (tail : List ℕ)
    → flat_map slot_after_comma ss ++ tail ≡ laid (map after_comma ss) tail
unfolding laid after_comma
commas_laid [] tail = refl
commas_laid (s ∷ ss) tail =
    ap (λ t. 44 ∷ t) (append_assoc (slot_text s) (flat_map slot_after_comma ss) tail
    ∙ ap (λ t. slot_text s ++ t) (commas_laid ss tail))

slots_laid : (g : List ℕ) (s : SlotId) (ss : List SlotId) (tail : List ℕ)
    → (g ++ slots_text (s ∷ ss)) ++ tail ≡ laid ((g, s) ∷ map after_comma ss) tail
unfolding laid
slots_laid g s ss tail =
    append_assoc g (slots_text (s ∷ ss)) tail
    ∙ ap (λ t. g ++ t) (append_assoc (slot_text s) (flat_map slot_after_comma ss) tail
    ∙ ap (λ t. slot_text s ++ t) (commas_laid ss tail))

laid_append : (ps qs : List Piece) (tail : List ℕ) → laid (ps ++ qs) tail ≡ laid ps (laid qs tail)
unfolding laid
laid_append [] qs tail = refl
laid_append (p ∷ ps) qs tail = ap (λ t. p.0 ++ (slot_text p.1 ++ t)) (laid_append ps qs tail)

commas_start : (ss : List SlotId) (qs : List Piece) (tail : List ℕ) → starts_apart (laid qs tail) ≡ true
    → starts_apart (laid (map after_comma ss ++ qs) tail) ≡ true
unfolding laid after_comma starts_apart
commas_start [] qs tail h = h
commas_start (s ∷ ss) qs tail h = refl

commas_fine : (ss : List SlotId) (qs : List Piece) (tail : List ℕ) → starts_apart (laid qs tail) ≡ true
    → IsFine qs tail → IsFine (map after_comma ss ++ qs) tail
unfolding IsFine after_comma has_none
commas_fine [] qs tail h f = f
commas_fine (s ∷ ss) qs tail h f = (refl, commas_start ss qs tail h, commas_fine ss qs tail h f)

commas_slots : (ss : List SlotId) (qs : List Piece) → slots_of (map after_comma ss ++ qs) ≡ ss ++ slots_of qs
unfolding slots_of after_comma
commas_slots [] qs = refl
commas_slots (s ∷ ss) qs = ap (λ l. s ∷ l) (commas_slots ss qs)

-- A text that consists of slots and the texts between them.
record IsSplit (text : List ℕ) (ss : List SlotId) : Type 0 where
  ps : List Piece
  tail : List ℕ
  same : text ≡ laid ps tail
  fine : IsFine ps tail
  slots : slots_of ps ≡ ss

-- Slots before a split text.
split_before : (g : List ℕ) (s : SlotId) (ss : List SlotId) (rest : List ℕ) (more : List SlotId)
    → has_none g ≡ true → starts_apart rest ≡ true → IsSplit rest more
    → IsSplit ((g ++ slots_text (s ∷ ss)) ++ rest) ((s ∷ ss) ++ more)
unfolding IsFine slots_of laid
split_before g s ss rest more h a i =
    let apart : starts_apart (laid i.ps i.tail) ≡ true = sym (ap starts_apart i.same) ∙ a in
    record {
      ps = (g, s) ∷ (map after_comma ss ++ i.ps);
      tail = i.tail;
      same = slots_laid g s ss rest
          ∙ ap (λ t. g ++ (slot_text s ++ laid (map after_comma ss) t)) i.same
          ∙ ap (λ t. g ++ (slot_text s ++ t)) (sym (laid_append (map after_comma ss) i.ps i.tail));
      fine = (h, commas_start ss i.ps i.tail apart, commas_fine ss i.ps i.tail apart i.fine);
      slots = ap (λ l. s ∷ l) (commas_slots ss i.ps ∙ ap (λ l. ss ++ l) i.slots);
    }

split_nothing : (tail : List ℕ) → has_none tail ≡ true → IsSplit tail []
unfolding IsFine slots_of laid
split_nothing tail h = record { ps = []; tail = tail; same = refl; fine = h; slots = refl }

at_text : (t t' : List ℕ) (ss ss' : List SlotId) → t ≡ t' → ss ≡ ss' → IsSplit t ss → IsSplit t' ss'
at_text t t' ss ss' e d i =
    record { ps = i.ps; tail = i.tail; same = sym e ∙ i.same; fine = i.fine; slots = i.slots ∙ d }

split_alone : (g : List ℕ) (s : SlotId) (ss : List SlotId) → has_none g ≡ true
    → IsSplit (g ++ slots_text (s ∷ ss)) (s ∷ ss)
unfolding has_none starts_apart
split_alone g s ss h =
    at_text _ _ _ _ (append-nil (g ++ slots_text (s ∷ ss))) (append-nil (s ∷ ss))
    (split_before g s ss [] [] h refl (split_nothing [] refl))

arity_split : (unbound extra : List SlotId) → IsSplit (32 ∷ arity_text unbound extra) (unbound ++ extra)
unfolding has_none starts_apart
arity_split [] [] = split_nothing _ refl
arity_split (u ∷ us) [] =
    at_text _ _ _ _ refl (sym (append-nil (u ∷ us)))
    (split_alone (32 ∷ codes "the following slots were not provided as arguments: ") u us refl)
arity_split [] (x ∷ xs) = split_alone
    (32 ∷ codes "the following slots were provided as arguments, but did not exist in the template: ") x xs refl
arity_split (u ∷ us) (x ∷ xs) =
    split_before (32 ∷ codes "the following slots were not provided as arguments: ") u us
    (further_extra_text (x ∷ xs)) (x ∷ xs) refl refl (split_alone
    (codes ". The following slots were provided as arguments, but did not exist in the template: ") x xs refl)

pieces_length : (ps : List Piece) → length (slots_of ps) ≡ length ps
unfolding slots_of
pieces_length [] = refl
pieces_length (p ∷ ps) = ap (λ n. suc n) (pieces_length ps)

names_of : (words text names rest : List ℕ) (from : ℕ) → length words ≡ from → text ≡ words ++ rest
    → names ≡ slice_range text from (length text) → names ≡ rest
names_of words text names rest from l t n = n ∙ to_end from text ∙ ap (λ k. drop k text) (sym l)
    ∙ ap (drop (length words)) t ∙ drop-append_seam words rest

-- If there are no more slots, nothing is found.
pub none_found : (k from : ℕ) (text names front rest : List ℕ) → names ≡ slice_range text from (length text)
    → front ≡ after_slots k names → rest ≡ from_mark front → true ≡ (length rest == 0)
    → (unbound extra : List SlotId) → (words : List ℕ) → length words ≡ from
    → text ≡ words ++ (32 ∷ arity_text unbound extra) → length (unbound ++ extra) ≤ k
none_found k from text names front rest n f r h unbound extra words l t =
    let i = arity_split unbound extra in
    let all : names ≡ laid i.ps i.tail = names_of words text names _ from l t n ∙ i.same in
    let few : length i.ps ≤ k = none_left k i.ps i.tail i.fine
    (ap (λ x. from_mark (after_slots k x)) (sym all) ∙ ap from_mark (sym f) ∙ sym r ∙ empty_of rest h) in
    let same : length (unbound ++ extra) ≡ length i.ps = ap length (sym i.slots) ∙ pieces_length i.ps in
    omega arith

-- The result is the slot at the index.
pub one_found : (k from : ℕ) (text names front rest behind : List ℕ) → names ≡ slice_range text from (length text)
    → front ≡ after_slots k names → rest ≡ from_mark front → false ≡ (length rest == 0)
    → length front ≤ length names → length rest ≤ length front → behind ≡ after_slot rest
    → length behind ≤ length rest
    → (unbound extra : List SlotId) → (words : List ℕ) → length words ≡ from
    → text ≡ words ++ (32 ∷ arity_text unbound extra)
    → IsSlotIn text (unbound ++ extra) k (record { start = length text - length rest; end = length text - length behind })
one_found k from text names front rest behind n f r h short shorter b less unbound extra words l t =
    let i = arity_split unbound extra in
    let all : names ≡ laid i.ps i.tail = names_of words text names _ from l t n ∙ i.same in
    let whole : text ≡ words ++ laid i.ps i.tail = t ∙ ap (λ x. words ++ x) i.same in
    let here : rest ≡ from_mark (after_slots k (laid i.ps i.tail)) =
    r ∙ ap from_mark (f ∙ ap (after_slots k) all) in
    let next : behind ≡ after_slot (from_mark (after_slots k (laid i.ps i.tail))) = b ∙ ap after_slot here in
    let s : Span = record { start = length text - length rest; end = length text - length behind } in
    let long : length text ≡ length words + length (laid i.ps i.tail) =
    ap length whole ∙ length-append words (laid i.ps i.tail) in
    let named : length names ≡ length (laid i.ps i.tail) = ap length all in
    let found = slot_found k words i.ps i.tail s i.fine (λ e. filled_of rest h (here ∙ e))
    (ap (λ x. s.start + length x) (sym here) ∙ back (length text) (length rest) (omega arith) ∙ ap length whole)
    (ap (λ x. s.end + length x) (sym next) ∙ back (length text) (length behind) (omega arith) ∙ ap length whole) in
    let by = moved found.0 s _ _ (sym whole) (found.2, found.3) in
    (found.0, ap (λ l. slice_get l k) (sym i.slots) ∙ found.1, by.0, by.1)
  where
    back : (a b : ℕ) → b ≤ a → a - b + b ≡ a
    back a b l = omega arith

-- If nothing is left before the last slot is skipped, nothing is left after it.
pub empty_further : (k i : ℕ) (t r : List ℕ) → i ≤ k → r ≡ after_slots i t → true ≡ (length r == 0)
    → r ≡ after_slots k t
empty_further k i t r l e h =
    let no : r ≡ [] = empty_of r h in no ∙ sym (nothing_further k i t l (sym e ∙ no))
