-- Maps from keys to annotations, as lists of pairs.
use Rattle.std.proofs.Common.{◌≡◌, ℕ, length, List, [], ◌∷◌, Bool, true, false, cond, refl, sym, ap, ◌∙◌, Option, Some}
use Rattle.std.proofs.Common.{None}
use Rattle.std.specs.Option.{option_or}
use Rattle.std.specs.Str.{bytes_eq}
use Rattle.std.specs.Map.{lookup}
use Rattle.std.specs.BTreeMap.{is_at}
use Rattle.std.specs.Cmp.Lexicographic.{nat_list_eq_equiv}
use Rattle.std.proofs.lemmas.Map.Text.{is_eq-slice_cmp}
use Rattle.cedar_ids.specs.Texts.{text_order}
use Rattle.cedar_annotation.specs.Annotations.{AnnotationsView, value_at, last_value_at, KeysAscend, AreAnnotationsOf}

-- A lookup in the map gives the value of the first pair with the key.
pub value_at-lookup : (key : List ℕ) (ps : AnnotationsView) → value_at key ps ≡ lookup (is_at (text_order key)) ps
value_at-lookup key [] = refl
value_at-lookup key (p ∷ ps) =
    λ i. cond ((nat_list_eq_equiv.symm p.0 key ∙ sym (is_eq-slice_cmp key p.0)) i) (Some p.1) (value_at-lookup key ps i)

pick : (o : Option (List ℕ)) (b : Bool) (v : List ℕ) (old : Option (List ℕ))
    → option_or o (cond b (Some v) old) ≡ option_or (option_or o (cond b (Some v) None)) old
pick None true v old = refl
pick None false v old = refl
pick (Some x) b v old = refl

-- The step of the loop for one more pair.
pub one_pair : (key k v : List ℕ) (rest : AnnotationsView) (old new all : Option (List ℕ))
    → new ≡ cond (is_at (text_order k) key) (Some v) old → option_or (last_value_at key ((k, v) ∷ rest)) old ≡ all
    → option_or (last_value_at key rest) new ≡ all
one_pair key k v rest old new all e h =
    ap (option_or (last_value_at key rest)) (e ∙ ap (λ b. cond b (Some v) old) (is_eq-slice_cmp k key))
    ∙ pick (last_value_at key rest) (bytes_eq k key) v old ∙ h

-- The end of the loop, when no pair is left.
pub no_more : (key : List ℕ) (rest : AnnotationsView) → length rest ≡ 0 → (old all : Option (List ℕ))
    → option_or (last_value_at key rest) old ≡ all → old ≡ all
no_more key [] l old all h = h
no_more key (p ∷ ps) l old all h = absurd (cc)

-- A map has the annotations of the pairs if it has, at each key, the value of the last pair with that key.
pub annotations_made : (pairs es : AnnotationsView) → KeysAscend es
    → ((key : List ℕ) → lookup (is_at (text_order key)) es ≡ last_value_at key pairs) → AreAnnotationsOf pairs es
annotations_made pairs es s h = record { ascending = s; last = λ key. value_at-lookup key es ∙ h key }
