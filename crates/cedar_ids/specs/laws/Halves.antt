-- The positions of the first `::"` and of the final `"`.
use Rattle.std.proofs.Common.{◌≡◌, ◌≢◌, ℕ, zero, suc, ◌<◌, ◌≤◌, List, [], ◌∷◌, ◌++◌, length, take, drop, true, false}
use Rattle.std.proofs.Common.{refl, sym, ap, ◌∙◌, ◌+◌, arith, lit<, Option, Some, None, MatchOption, inl, inr}
use Rattle.std.proofs.Common.{length-append, subst}
use Rattle.std.proofs.Math.ListN.{get_or, get_or-append}
use Rattle.std.proofs.lemmas.List.{append_assoc, drop_at, take_at, get_or-drop, length-drop}
use Rattle.std.proofs.lemmas.Bool.{false_from_ne_true}
use Rattle.std.proofs.lemmas.Bool.Decides.{eqb_tells}
use Rattle.std.proofs.lemmas.Slice.Eq.{starts_is}
use Rattle.std.proofs.lemmas.List.Prefix.{front_rest}
use Rattle.std.specs.Prelude.{nat_eq}
use Rattle.std.specs.Cmp.{unsigned_Decides}
use Rattle.std.specs.Borrow.{Bor}
use Rattle.std.specs.List.{starts_with}
use Rattle.std.specs.Option.{option_map}
use Rattle.std.specs.Str.Pattern.{FindsText, FindsTextSuffix, SplitsAroundMatch, StripsSuffix}
use Rattle.cedar_ids.specs.laws.UidReading.{first_text, before_quote, uid_halves}

starts_not : (p s : List ℕ) → ((rest : List ℕ) → s ≢ p ++ rest) → starts_with nat_eq s p ≡ false
starts_not p s h = false_from_ne_true _ (λ e. h _ ((starts_is unsigned_Decides s p (starts_with nat_eq s p) refl).0 e))

pub starts_so : (p s rest : List ℕ) → s ≡ p ++ rest → starts_with nat_eq s p ≡ true
starts_so p s rest e = (starts_is unsigned_Decides s p (starts_with nat_eq s p) refl).1 rest e

no_front : (p rest : List ℕ) → 0 < length p → [] ≡ p ++ rest → ⊥
no_front p rest l e = absurd (omega (arith, length-append p rest, ap length e))

first_text-none : (p s : List ℕ) → ((i : ℕ) → i ≤ length s → (rest : List ℕ) → drop i s ≢ p ++ rest)
    → first_text p s ≡ None
unfolding first_text
first_text-none p [] h = refl
first_text-none p (b ∷ bs) h =
    rw (starts_not p (b ∷ bs) (h 0 (omega arith)), first_text-none p bs (λ i l rest. h (suc i) (omega arith) rest)) refl

first_text-at : (p s : List ℕ) (i : ℕ) (rest : List ℕ) → 0 < length p
    → ((k : ℕ) → k < i → (r : List ℕ) → drop k s ≢ p ++ r) → drop i s ≡ p ++ rest
    → first_text p s ≡ Some (take i s, rest)
unfolding first_text
first_text-at p [] zero rest l h e = absurd (no_front p rest l e)
first_text-at p [] (suc i) rest l h e = absurd (no_front p rest l e)
first_text-at p (b ∷ bs) zero rest l h e = rw (starts_so p (b ∷ bs) rest e, front_rest (b ∷ bs) p rest e) refl
first_text-at p (b ∷ bs) (suc i) rest l h e =
    rw (
      starts_not p (b ∷ bs) (h 0 (omega arith)),
      first_text-at p bs i rest l (λ k m r. h (suc k) (omega arith) r) e,
    ) refl

-- The result of `split_once`, in terms of `first_text`.
pub split_found : (p s : List ℕ) (r : Option (Bor (List ℕ) × Bor (List ℕ))) → 0 < length p
    → MatchOption r (FindsText p s None) (λ x. SplitsAroundMatch (FindsText p) s x.0.now x.1.now)
    → option_map (λ x. (x.0.now, x.1.now)) r ≡ first_text p s
split_found p s None l h = sym (first_text-none p s h)
split_found p s (Some x) l h = rw (h.3, h.4) (sym (first_text-at p s h.0 (drop h.1 s) l h.2.0 h.2.1.split))

-- The mark has a `"` at its third byte.
quote_in_mark : (s : List ℕ) (i : ℕ) (rest : List ℕ) → drop i s ≡ 58 ∷ 58 ∷ 34 ∷ rest
    → (i + 2 < length s) × (get_or s (i + 2) 0 ≡ 34)
quote_in_mark s i rest e = (
  omega (arith, ap length e, length-drop i s),
  sym (get_or-drop i s 2 0) ∙ ap (λ l. get_or l 2 0) e,
)

-- A text without `"` has no mark.
pub no_mark : (s : List ℕ) → ((i : ℕ) → i < length s → get_or s i 0 ≢ 34) → None ≡ first_text (58 ∷ 58 ∷ 34 ∷ []) s
no_mark s h = sym (first_text-none (58 ∷ 58 ∷ 34 ∷ []) s (λ i l rest e.
    let q = quote_in_mark s i rest e in
    h (i + 2) q.0 q.1))

-- If the text before the first `"` ends with `::`, this is the first mark.
pub mark_before_quote : (s name back : List ℕ) → s ≡ (name ++ 58 ∷ 58 ∷ []) ++ 34 ∷ back
    → ((i : ℕ) → i < length (name ++ 58 ∷ 58 ∷ []) → get_or (name ++ 58 ∷ 58 ∷ []) i 0 ≢ 34)
    → Some (name, back) ≡ first_text (58 ∷ 58 ∷ 34 ∷ []) s
mark_before_quote s name back e free =
    let whole : s ≡ name ++ 58 ∷ 58 ∷ 34 ∷ back = e ∙ append_assoc name (58 ∷ 58 ∷ []) (34 ∷ back) in
    let at : drop (length name) s ≡ 58 ∷ 58 ∷ 34 ∷ back = ap (drop (length name)) whole
    ∙ drop_at name (58 ∷ 58 ∷ 34 ∷ back) (length name) refl in
    let before : take (length name) s ≡ name = ap (take (length name)) whole
    ∙ take_at name (58 ∷ 58 ∷ 34 ∷ back) (length name) refl in
    let earlier : (k : ℕ) → k < length name → (r : List ℕ) → drop k s ≢ 58 ∷ 58 ∷ 34 ∷ r = λ k l r d.
    let inside : k + 2 < length (name ++ 58 ∷ 58 ∷ []) = omega (arith, length-append name (58 ∷ 58 ∷ [])) in
    free (k + 2) inside (sym (get_or-append (name ++ 58 ∷ 58 ∷ []) (34 ∷ back) 0 (k + 2) inside)
    ∙ ap (λ l. get_or l (k + 2) 0) (sym e) ∙ (quote_in_mark s k r d).1) in
    sym (first_text-at (58 ∷ 58 ∷ 34 ∷ []) s (length name) back (lit< tt) earlier at
    ∙ ap (λ x. Some (x, back)) before)

-- `mark_before_quote` for the result of `strip_suffix`.
pub ends_with_mark : (s front back name : List ℕ) → s ≡ front ++ 34 ∷ back
    → ((i : ℕ) → i < length front → get_or front i 0 ≢ 34) → StripsSuffix (FindsTextSuffix (58 ∷ 58 ∷ [])) front name
    → Some (name, back) ≡ first_text (58 ∷ 58 ∷ 34 ∷ []) s
ends_with_mark s front back name e free h =
    let ends : front ≡ name ++ 58 ∷ 58 ∷ [] = h.1.1 ∙ ap (λ l. l ++ 58 ∷ 58 ∷ []) (sym h.2) in
    mark_before_quote s name back (e ∙ ap (λ l. l ++ 34 ∷ back) ends)
    (subst (λ l. (i : ℕ) → i < length l → get_or l i 0 ≢ 34) ends free)

before_quote-none : (s : List ℕ) → ((front : List ℕ) → s ≢ front ++ 34 ∷ []) → before_quote s ≡ None
unfolding before_quote
before_quote-none [] h = refl
before_quote-none (b ∷ []) h = elim (eqb_tells b 34) as (λ _. before_quote (b ∷ []) ≡ None)
    [ inl w ↦ absurd (h [] (ap (λ y. y ∷ []) w.1)) | inr w ↦ rw w.0 refl ]
before_quote-none (b ∷ c ∷ bs) h = rw (before_quote-none (c ∷ bs) (λ front e. h (b ∷ front) (ap (λ y. b ∷ y) e))) refl

pub halves_no_quote : (s : List ℕ) → ((front : List ℕ) → s ≢ front ++ 34 ∷ []) → None ≡ uid_halves s
unfolding uid_halves
halves_no_quote s h = rw (before_quote-none s h) refl
