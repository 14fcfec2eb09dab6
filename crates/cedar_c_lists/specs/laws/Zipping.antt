-- Two lists whose elements are related pairwise, with one more pair: uids with parts of a text, or with texts.
use Rattle.std.proofs.Common.{◌≡◌, ◌++◌, ◌+◌, ◌<◌, ℕ, List, [], ◌∷◌, ap, length, refl, subst, sym, take, ◌∙◌}
use Rattle.std.proofs.Math.ListN.{get_or}
use Rattle.std.proofs.lemmas.List.{take_more}
use Rattle.std.specs.List.{AllZip}
use Rattle.cedar_ids.specs.declared.entity.EntityUID.{EntityUID}
use Rattle.cedar_c_lists.specs.Texts.{AreReadAt, AreTextsOf, IsReadAt, IsTextOf}
use Rattle.cedar_c_lists.specs.declared.layout.Span.{Span}

-- One more pair.
pub zip_more : {A B : Type 0} (R : A → B → Type 0) (xs : List A) (ys : List B) (x : A) (y : B) → AllZip R xs ys → R x y
    → AllZip R (xs ++ x ∷ []) (ys ++ y ∷ [])
zip_more R [] [] x y z r = (r, tt)
zip_more R [] (b ∷ ys) x y z r = absurd z
zip_more R (a ∷ xs) [] x y z r = absurd z
zip_more R (a ∷ xs) (b ∷ ys) x y z r = (z.0, zip_more R xs ys x y z.1 r)

-- One more uid is parsed, from the next part.
pub read_more_uids : (text : List ℕ) (us : List EntityUID) (spans : List Span) (k : ℕ) (d : Span) (u : EntityUID)
    → k < length spans → AreReadAt text us (take k spans) → IsReadAt text u (get_or spans k d)
    → AreReadAt text (us ++ u ∷ []) (take (k + 1) spans)
read_more_uids text us spans k d u l h r =
    rw (take_more spans k d l) (zip_more (IsReadAt text) us (take k spans) u (get_or spans k d) h r)

append_one : {A : Type 0} (xs : List A) (x : A) (ys : List A) → (xs ++ x ∷ []) ++ ys ≡ xs ++ x ∷ ys
append_one [] x ys = refl
append_one (y ∷ xs) x ys = ap (λ l. y ∷ l) (append_one xs x ys)

-- The texts of the uids so far, and of the next uid.
pub texts_next : (whole rest rest' : List EntityUID) (u : EntityUID) (answer answer' : List (List ℕ))
    → rest ≡ u ∷ rest' →
    ((done : List EntityUID) × (done ++ rest ≡ whole) × AreTextsOf done answer)
    → ((t : List ℕ) × IsTextOf u t × (answer' ≡ answer ++ t ∷ [])) →
    (done : List EntityUID) × (done ++ rest' ≡ whole) × AreTextsOf done answer'
texts_next whole rest rest' u answer answer' step so next = (
  so.0 ++ u ∷ [],
  append_one so.0 u rest' ∙ ap (λ l. so.0 ++ l) (sym step) ∙ so.1,
  subst (AreTextsOf (so.0 ++ u ∷ [])) (sym next.2) (zip_more IsTextOf so.0 answer u next.0 so.2 next.1),
)
