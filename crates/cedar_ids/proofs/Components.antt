-- The first mark `::` of a text, and the components on both sides of it.
use Rattle.std.proofs.Common.{◌≡◌, ◌≢◌, ℕ, suc, zero, ◌<◌, ◌≤◌, List, [], ◌∷◌, length, take, drop, Bool, true, false}
use Rattle.std.proofs.Common.{◌&&◌, ◌==◌, ◌++◌, ◌+◌, refl, sym, ap, ◌∙◌, arith, Option, Some, None, MatchOption}
use Rattle.std.proofs.lemmas.List.{drop_at, take_at, get_or-drop, length-drop}
use Rattle.std.proofs.Math.ListN.{get_or, get_or-append}
use Rattle.std.proofs.lemmas.Bool.{eqb-true}
use Rattle.std.specs.Borrow.{Bor}
use Rattle.std.specs.Str.Pattern.{FindsText, SplitsAroundMatch}
use Rattle.cedar_ids.specs.laws.NameReading.{components}

mark : List ℕ
mark = 58 ∷ 58 ∷ []

not_both : (x y : Bool) → (x ≡ true → y ≡ true → ⊥) → (x && y) ≡ false
not_both true true h = absurd (h refl refl)
not_both true false h = refl
not_both false y h = refl

-- Two bytes that are not the mark do not pass the test for it.
not_mark : (b c : ℕ) (bs : List ℕ) → ((rest : List ℕ) → b ∷ c ∷ bs ≢ 58 ∷ 58 ∷ rest) → ((b == 58) && (c == 58)) ≡ false
not_mark b c bs h = not_both (b == 58) (c == 58) (λ p q. h bs (
    let e : b ≡ 58 = eqb-true b 58 p in
    let f : c ≡ 58 = eqb-true c 58 q in
    cc))

-- A text without the mark is one component.
pub components_whole : (s : List ℕ) → ((i : ℕ) → i ≤ length s → (rest : List ℕ) → drop i s ≢ 58 ∷ 58 ∷ rest)
    → components s ≡ s ∷ []
unfolding components
components_whole [] h = refl
components_whole (b ∷ []) h = refl
components_whole (b ∷ c ∷ bs) h =
    rw (not_mark b c bs (h 0 (omega arith)), components_whole (c ∷ bs) (λ i l rest. h (suc i) (omega arith) rest)) refl

-- The components of a text are the part before the first mark, followed by the components after the mark.
pub components_first : (s : List ℕ) (i : ℕ) (rest : List ℕ) → ((k : ℕ) → k < i → (r : List ℕ) → drop k s ≢ 58 ∷ 58 ∷ r)
    → drop i s ≡ 58 ∷ 58 ∷ rest → components s ≡ take i s ∷ components rest
unfolding components
components_first [] zero rest h e = absurd (cc)
components_first [] (suc i) rest h e = absurd (cc)
components_first (b ∷ []) zero rest h e = absurd (cc)
components_first (b ∷ []) (suc zero) rest h e = absurd (cc)
components_first (b ∷ []) (suc (suc i)) rest h e = absurd (cc)
components_first (b ∷ c ∷ bs) zero rest h e = ap components e
components_first (b ∷ c ∷ bs) (suc i) rest h e =
    rw (
      not_mark b c bs (h 0 (omega arith)),
      components_first (c ∷ bs) i rest (λ k l r. h (suc k) (omega arith) r) e,
    ) refl

-- The first byte of a rest that begins with `::`.
colon_at : (s : List ℕ) (i : ℕ) (rest : List ℕ) → drop i s ≡ 58 ∷ 58 ∷ rest → get_or s i 0 ≡ 58
colon_at s i rest e =
    let same : get_or s i 0 ≡ get_or s (i + 0) 0 = ap (λ n. get_or s n 0) (omega arith) in
    same ∙ sym (get_or-drop i s 0 0) ∙ ap (λ l. get_or l 0 0) e

-- The result of `split_once` at the mark, in terms of `components`.
pub components_split : (s : List ℕ) (r : Option (Bor (List ℕ) × Bor (List ℕ)))
    → MatchOption r (FindsText (58 ∷ 58 ∷ []) s None)
    (λ x. SplitsAroundMatch (FindsText (58 ∷ 58 ∷ [])) s x.0.now x.1.now)
    → MatchOption r (components s ≡ s ∷ []) (λ x. components s ≡ x.0.now ∷ components x.1.now)
components_split s None h = components_whole s h
components_split s (Some x) h =
    components_first s h.0 (drop h.1 s) (λ k l r. h.2.0 k l r) h.2.1.split ∙ rw (h.3, h.4) refl

-- A text without `:` is one component.
pub components_no_colon : (s : List ℕ) → ((i : ℕ) → i < length s → get_or s i 0 ≢ 58) → components s ≡ s ∷ []
components_no_colon s h = components_whole s (λ i l rest e.
    h i (omega (arith, ap length e, length-drop i s)) (colon_at s i rest e))

-- If the first `:` of a text is followed by another one, the text before it is the first component.
pub components_colon : (s front back rest : List ℕ) → s ≡ front ++ 58 ∷ back
    → ((i : ℕ) → i < length front → get_or front i 0 ≢ 58) → back ≡ 58 ∷ rest
    → components s ≡ front ∷ components rest
components_colon s front back rest e free b =
    let whole : s ≡ front ++ 58 ∷ 58 ∷ rest = e ∙ ap (λ l. front ++ 58 ∷ l) b in
    let at : drop (length front) s ≡ 58 ∷ 58 ∷ rest = ap (drop (length front)) whole
    ∙ drop_at front (58 ∷ 58 ∷ rest) (length front) refl in
    let before : take (length front) s ≡ front = ap (take (length front)) whole
    ∙ take_at front (58 ∷ 58 ∷ rest) (length front) refl in
    let earlier : (k : ℕ) → k < length front → (r : List ℕ) → drop k s ≢ 58 ∷ 58 ∷ r = λ k l r d.
    free k l (sym (get_or-append front (58 ∷ 58 ∷ rest) 0 k l) ∙ ap (λ x. get_or x k 0) (sym whole)
    ∙ colon_at s k r d) in
    components_first s (length front) rest earlier at ∙ ap (λ x. x ∷ components rest) before
