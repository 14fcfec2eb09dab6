-- A uid that is parsed from a text has that text. Laws of the first mark of a text.
use Rattle.std.proofs.Common.{◌≡◌, ◌<◌, ◌≤◌, ℕ, arith, lit<, length-append, List, [], ◌∷◌, ◌++◌, length, drop, Bool}
use Rattle.std.proofs.Common.{true, false, cond, refl, sym, ap, ◌∙◌, append_assoc, subst, Option, Some, None, Ok, inl}
use Rattle.std.proofs.Common.{inr, ◌⊎◌, codes}
use Rattle.std.proofs.lemmas.Bool.{eqb-true, false≢true}
use Rattle.std.proofs.lemmas.Slice.Eq.{starts_is}
use Rattle.std.specs.Prelude.{◌==◌, nat_eq, option_and_then}
use Rattle.std.specs.Cmp.{unsigned_Decides}
use Rattle.std.specs.Option.{option_map}
use Rattle.std.specs.List.{starts_with}
use Rattle.cedar_ids.specs.Name.{NameParts}
use Rattle.cedar_ids.specs.Uid.{UidParts}
use Rattle.cedar_ids.specs.laws.Decode.{eid_of}
use Rattle.cedar_ids.specs.Printed.{printed_name}
use Rattle.cedar_ids.specs.laws.NameReading.{name_of}
use Rattle.cedar_ids.specs.laws.UidReading.{first_text, before_quote, onto_front, onto_text, uid_halves, uid_with}
use Rattle.cedar_ids.specs.laws.UidReading.{reading_of_parts, reading_of_halves, uid_reading}
use Rattle.cedar_ids.specs.TextOf.{IsNameText, IsPrinted}
use Rattle.cedar_ids.specs.ReadsUid.{IsSplit, HasMarks, IsFirstSplit, StartsWithName}
use Rattle.cedar_ids.specs.laws.PrintedLaws.{halves_quote, first_text-found, marks_no_quote, parts_no_quote}
use Rattle.cedar_ids.specs.laws.Halves.{starts_so}
use Rattle.cedar_ids.specs.laws.Escapes.{eid_found}
use Rattle.cedar_ids.specs.laws.NameTextLaws.{id_parts}
use Rattle.cedar_ids.specs.laws.NameTexts.{name_found}

Halves : Type 0
Halves = List ℕ × List ℕ

halves_chosen : (b : Bool) (x y : Option (List ℕ × List ℕ)) (z : Option (List ℕ × List ℕ)) → cond b x y ≡ z
    → ((b ≡ true) × (x ≡ z)) ⊎ ((b ≡ false) × (y ≡ z))
halves_chosen true x y z e = inl (refl, e)
halves_chosen false x y z e = inr (refl, e)

onto_some : (b : ℕ) (o : Option (List ℕ × List ℕ)) (x y : List ℕ) → option_map (onto_front b) o ≡ Some (x, y)
    → (x' : List ℕ) × (o ≡ Some (x', y)) × (x ≡ b ∷ x')
onto_some b None x y e = absurd (cc)
onto_some b (Some p) x y e =
    let q : onto_front b p ≡ (x, y) = cc in
    (p.0, ap (λ z. Some (p.0, z)) (ap (λ (z : List ℕ × List ℕ). z.1) q), sym (ap (λ (z : List ℕ × List ℕ). z.0) q))

-- A text is the part before the first `p`, then `p`, then the part after it.
first_text_sound : (p s x y : List ℕ) → first_text p s ≡ Some (x, y) → s ≡ x ++ (p ++ y)
unfolding first_text
first_text_sound p [] x y e = absurd (cc)
first_text_sound p (b ∷ bs) x y e =
    elim (halves_chosen (starts_with nat_eq (b ∷ bs) p) (Some ([], drop (length p) (b ∷ bs)))
    (option_map (onto_front b) (first_text p bs)) (Some (x, y)) e) as (λ _. b ∷ bs ≡ x ++ (p ++ y)) [
      | inl w ↦
          let q : ◌≡◌ {A = List ℕ × List ℕ} ([], drop (length p) (b ∷ bs)) (x, y) = cc in
          let f : b ∷ bs ≡ p ++ drop (length p) (b ∷ bs) =
          (starts_is unsigned_Decides (b ∷ bs) p (starts_with nat_eq (b ∷ bs) p) refl).0 w.0 in
          f ∙ ap (λ (z : List ℕ × List ℕ). z.0 ++ (p ++ z.1)) q
      | inr w ↦
          let r = onto_some b (first_text p bs) x y w.1 in
          ap (λ z. b ∷ z) (first_text_sound p bs r.0 y r.1) ∙ sym (ap (λ z. z ++ (p ++ y)) r.2)
    ]

text_some : (b : ℕ) (o : Option (List ℕ)) (x : List ℕ) → option_map (onto_text b) o ≡ Some x → (x' : List ℕ)
    × (o ≡ Some x') × (x ≡ b ∷ x')
text_some b None x e = absurd (cc)
text_some b (Some p) x e = let q : b ∷ p ≡ x = cc in (p, refl, sym q)

some_nil : (t : Bool) (x : List ℕ) → cond t (Some []) None ≡ Some x → (t ≡ true) × (x ≡ [])
some_nil true x e = (refl, cc)
some_nil false x e = absurd (cc)

before_quote_sound : (s x : List ℕ) → before_quote s ≡ Some x → s ≡ x ++ 34 ∷ []
unfolding before_quote
before_quote_sound [] x e = absurd (cc)
before_quote_sound (b ∷ []) x e =
    let p = some_nil (b == 34) x e in
    let q : b ≡ 34 = eqb-true b 34 p.0 in
    rw (p.1, q) refl
before_quote_sound (b ∷ c ∷ bs) x e =
    let r = text_some b (before_quote (c ∷ bs)) x e in
    ap (λ z. b ∷ z) (before_quote_sound (c ∷ bs) r.0 r.1) ∙ sym (ap (λ z. z ++ 34 ∷ []) r.2)

then_some : (o : Option (List ℕ)) (p : List ℕ) (h : List ℕ × List ℕ) → option_and_then (first_text p) o ≡ Some h
    → (x : List ℕ) × (o ≡ Some x) × (first_text p x ≡ Some h)
then_some None p h e = absurd (cc)
then_some (Some x) p h e = (x, refl, e)

-- The two halves of a text, with the mark and the quote, are the text.
pub halves_sound : (t n e : List ℕ) → uid_halves t ≡ Some (n, e) → t ≡ n ++ (codes "::\"" ++ (e ++ codes "\""))
unfolding uid_halves
halves_sound t n e h =
    let r = then_some (before_quote t) (codes "::\"") (n, e) h in
    before_quote_sound t r.0 r.1
    ∙ ap (λ z. z ++ 34 ∷ []) (first_text_sound (codes "::\"") r.0 n e r.2)
    ∙ append_assoc n (codes "::\"" ++ e) (34 ∷ [])

map_some : (n : NameParts) (o : Option (List ℕ)) (u : UidParts) → option_map (uid_with n) o ≡ Some u → (e : List ℕ)
    × (o ≡ Some e) × (uid_with n e ≡ u)
map_some n None u e = absurd (cc)
map_some n (Some x) u e = (x, refl, cc)

parts_some : (n : Option NameParts) (e : Option (List ℕ)) (u : UidParts) → reading_of_parts n e ≡ Ok (Some u)
    → (m : NameParts) × (d : List ℕ) × (n ≡ Some m) × (e ≡ Some d) × (uid_with m d ≡ u)
parts_some None e u h = absurd (cc)
parts_some (Some m) e u h =
    let q : option_map (uid_with m) e ≡ Some u = cc in
    let r = map_some m e u q in
    (m, r.0, refl, r.1, r.2)

halves_some : (o : Option (List ℕ × List ℕ)) (u : UidParts) → reading_of_halves o ≡ Ok (Some u) → (p : List ℕ × List ℕ)
    × (o ≡ Some p) × (reading_of_parts (name_of p.0) (eid_of p.1) ≡ Ok (Some u))
halves_some None u h = absurd (cc)
halves_some (Some p) u h = (p, refl, h)

-- A uid that is parsed from a text has that text as its printed text.
pub uid_found : (t : List ℕ) (u : UidParts) → uid_reading t ≡ Ok (Some u) → IsPrinted u t
unfolding uid_reading
uid_found t u h =
    let q = halves_some (uid_halves t) u h in
    let r = parts_some (name_of q.0.0) (eid_of q.0.1) u q.2 in
    let n = name_found q.0.0 r.0 r.2 in
    let d = eid_found q.0.1 r.1 r.3 in
    let s = halves_sound t q.0.0 q.0.1 q.1 in
    let P : UidParts → Type 0 = λ v. IsPrinted v t in
    subst P r.4 (
      n.0,
      d.0,
      s ∙ ap (λ z. z ++ (codes "::\"" ++ (q.0.1 ++ codes "\""))) n.1
          ∙ ap (λ z. printed_name r.0 ++ (codes "::\"" ++ (z ++ codes "\""))) d.1,
    )

-- ---- The first mark

onto_none : (b : ℕ) (o : Option (List ℕ × List ℕ)) → option_map (onto_front b) o ≡ None → o ≡ None
onto_none b None e = refl
onto_none b (Some p) e = absurd (cc)

no_room : (f p b : List ℕ) → 0 < length p → [] ≡ f ++ (p ++ b) → ⊥
no_room f p b l e = absurd (omega (arith, length-append f (p ++ b), length-append p b, ap length e))

-- A text without a first `p` contains no `p`.
first_text_nowhere : (p s f b : List ℕ) → 0 < length p → s ≡ f ++ (p ++ b) → first_text p s ≡ None → ⊥
unfolding first_text
first_text_nowhere p [] f b l e h = no_room f p b l e
first_text_nowhere p (c ∷ cs) [] b l e h =
    elim (halves_chosen (starts_with nat_eq (c ∷ cs) p) (Some ([], drop (length p) (c ∷ cs)))
    (option_map (onto_front c) (first_text p cs)) None h) as (λ _. ⊥) [
      | inl w ↦ absurd (cc)
      | inr w ↦ absurd (false≢true (sym w.0 ∙ starts_so p (c ∷ cs) b e))
    ]
first_text_nowhere p (c ∷ cs) (d ∷ ds) b l e h =
    elim (halves_chosen (starts_with nat_eq (c ∷ cs) p) (Some ([], drop (length p) (c ∷ cs)))
    (option_map (onto_front c) (first_text p cs)) None h) as (λ _. ⊥) [
      | inl w ↦ absurd (cc)
      | inr w ↦ let k : cs ≡ ds ++ (p ++ b) = cc in first_text_nowhere p cs ds b l k (onto_none c (first_text p cs) w.1)
    ]

-- No occurrence of `p` is before the first one.
first_text_least : (p s x y f b : List ℕ) → 0 < length p → s ≡ f ++ (p ++ b) → first_text p s ≡ Some (x, y)
    → length x ≤ length f
unfolding first_text
first_text_least p [] x y f b l e h = absurd (no_room f p b l e)
first_text_least p (c ∷ cs) x y [] b l e h =
    elim (halves_chosen (starts_with nat_eq (c ∷ cs) p) (Some ([], drop (length p) (c ∷ cs)))
    (option_map (onto_front c) (first_text p cs)) (Some (x, y)) h) as (λ _. length x ≤ 0) [
      | inl w ↦
          let q : ◌≡◌ {A = List ℕ × List ℕ} ([], drop (length p) (c ∷ cs)) (x, y) = cc in
          let z : 0 ≡ length x = ap (λ (z : List ℕ × List ℕ). length z.0) q in
          omega arith
      | inr w ↦ absurd (false≢true (sym w.0 ∙ starts_so p (c ∷ cs) b e))
    ]
first_text_least p (c ∷ cs) x y (d ∷ ds) b l e h =
    elim (halves_chosen (starts_with nat_eq (c ∷ cs) p) (Some ([], drop (length p) (c ∷ cs)))
    (option_map (onto_front c) (first_text p cs)) (Some (x, y)) h) as (λ _. length x ≤ length (d ∷ ds)) [
      | inl w ↦
          let q : ◌≡◌ {A = List ℕ × List ℕ} ([], drop (length p) (c ∷ cs)) (x, y) = cc in
          let z : 0 ≡ length x = ap (λ (z : List ℕ × List ℕ). length z.0) q in
          omega arith
      | inr w ↦
          let k : cs ≡ ds ++ (p ++ b) = cc in
          let r = onto_some c (first_text p cs) x y w.1 in
          let i : length r.0 ≤ length ds = first_text_least p cs r.0 y ds b l k r.1 in
          let j : length x ≡ length (c ∷ r.0) = ap length r.2 in
          omega arith
    ]

-- `uid_halves` of a split text splits the text before the final quote at its first mark.
split_text : (t f b : List ℕ) → IsSplit f b t → first_text (codes "::\"") (f ++ (codes "::\"" ++ b)) ≡ uid_halves t
split_text t f b h = halves_quote t (f ++ (codes "::\"" ++ b)) (h ∙ sym (append_assoc f (codes "::\"" ++ b) (34 ∷ [])))

-- A text without halves does not contain the marks.
pub no_marks : (t : List ℕ) → uid_halves t ≡ None → HasMarks t → ⊥
no_marks t e h =
    first_text_nowhere (codes "::\"") (h.0 ++ (codes "::\"" ++ h.1)) h.0 h.1 (lit< tt) refl (split_text t h.0 h.1 h.2
    ∙ e)

-- The two halves are those at the first mark.
pub first_split : (t n e : List ℕ) → uid_halves t ≡ Some (n, e) → IsFirstSplit n e t
first_split t n e h = (
  halves_sound t n e h,
  λ f b s. first_text_least (codes "::\"") (f ++ (codes "::\"" ++ b)) n e f b (lit< tt) refl (split_text t f b s
      ∙ h),
)

-- If the first half is the text of a name, then the text before the first mark is that name.
pub starts_named : (t m e : List ℕ) (n : NameParts) → uid_halves t ≡ Some (m, e) → IsNameText n m → StartsWithName n t
starts_named t m e n h k =
    let P : List ℕ → Type 0 = λ x. IsFirstSplit x e t in
    (k.0, (e, subst P k.1 (first_split t m e h)))

-- If the text before the first mark is a name, then the first half is the text of that name.
pub named_half : (t m e : List ℕ) (n : NameParts) → uid_halves t ≡ Some (m, e) → StartsWithName n t → IsNameText n m
named_half t m e n h k =
    let q : ◌≡◌ {A = Option (List ℕ × List ℕ)} (Some (m, e)) (Some (printed_name n, k.1.0)) =
    sym h ∙ sym (split_text t (printed_name n) k.1.0 k.1.1.0)
    ∙ first_text-found (printed_name n) k.1.0
    (marks_no_quote n.path n.basename k.0.0 (parts_no_quote n.basename (id_parts n.basename k.0.1))) in
    let r : ◌≡◌ {A = List ℕ × List ℕ} (m, e) (printed_name n, k.1.0) = cc in
    (k.0, ap (λ (z : List ℕ × List ℕ). z.0) r)
