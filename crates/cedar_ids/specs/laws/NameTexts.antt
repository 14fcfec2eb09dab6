-- A name that is parsed from a text has that text.
use Rattle.std.proofs.Common.{◌≡◌, ℕ, List, [], ◌∷◌, ◌++◌, Bool, true, false, ◌&&◌, cond, refl, sym, ap, ◌∙◌}
use Rattle.std.proofs.Common.{append_assoc, subst, Option, Some, None}
use Rattle.std.proofs.lemmas.Bool.{eqb-true}
use Rattle.std.specs.Prelude.{◌==◌}
use Rattle.std.specs.Cmp.{first_so, second_so}
use Rattle.std.specs.List.{flat_map, list_all}
use Rattle.cedar_ids.specs.Name.{NameParts}
use Rattle.cedar_ids.specs.Printed.{before_mark, printed_name}
use Rattle.cedar_ids.specs.Reading.{is_id}
use Rattle.cedar_ids.specs.laws.NameReading.{components, onto_first, name_of_components, name_of}
use Rattle.cedar_ids.specs.Reads.{IsTextOfOne, IsTextOfNone}
use Rattle.cedar_ids.specs.TextOf.{IsName, IsNameText}
use Rattle.cedar_ids.specs.laws.NameTextLaws.{some_piece, name_of_text}

-- The components, separated by `::`.
pub joined : List (List ℕ) → List ℕ
joined [] = []
joined (c ∷ []) = c
joined (c ∷ d ∷ cs) = c ++ (58 ∷ 58 ∷ joined (d ∷ cs))

joined_onto : (b : ℕ) (d : List ℕ) (ds : List (List ℕ)) → joined ((b ∷ d) ∷ ds) ≡ b ∷ joined (d ∷ ds)
unfolding joined
joined_onto b d [] = refl
joined_onto b d (x ∷ xs) = refl

joined_if : (t : Bool) (s : List ℕ) (x y : List (List ℕ)) → (t ≡ true → joined x ≡ s) → (t ≡ false → joined y ≡ s)
    → joined (cond t x y) ≡ s
joined_if true s x y p q = p refl
joined_if false s x y p q = q refl

-- Writing an empty first component writes `::` before the other components.
joined_mark : (d : List ℕ) (ds : List (List ℕ)) → joined ([] ∷ d ∷ ds) ≡ 58 ∷ 58 ∷ joined (d ∷ ds)
unfolding joined
joined_mark d ds = refl

-- Writing the components of a text with `::` between them gives the text.
pub joined-components : (s : List ℕ) → joined (components s) ≡ s
unfolding components joined
joined-components [] = refl
joined-components (b ∷ []) = refl
joined-components (b ∷ c ∷ bs) =
    joined_if ((b == 58) && (c == 58)) (b ∷ c ∷ bs) ([] ∷ components bs) (onto_first b (components (c ∷ bs)))
    (λ t.
    let p = some_piece bs in
    let x : b ≡ 58 = eqb-true b 58 (first_so (b == 58) (c == 58) t) in
    let y : c ≡ 58 = eqb-true c 58 (second_so (b == 58) (c == 58) t) in
    let j : joined (p.0 ∷ p.1) ≡ bs = rw p.2 at (joined-components bs) in
    rw p.2 (joined_mark p.0 p.1 ∙ ap (λ z. 58 ∷ 58 ∷ z) j ∙ (let q : 58 ∷ 58 ∷ bs ≡ b ∷ c ∷ bs = cc in q)))
    (λ t.
    let p = some_piece (c ∷ bs) in
    let j : joined (p.0 ∷ p.1) ≡ c ∷ bs = rw p.2 at (joined-components (c ∷ bs)) in
    rw p.2 (joined_onto b p.0 p.1 ∙ ap (λ z. b ∷ z) j))

split_some : (b : Bool) (n m : NameParts) → cond b (Some n) None ≡ Some m → (b ≡ true) × (n ≡ m)
split_some true n m e = (refl, cc)
split_some false n m e = absurd (cc)

split_more : (b : Bool) (o : Option NameParts) (m : NameParts) → cond b o None ≡ Some m → (b ≡ true) × (o ≡ Some m)
split_more true o m e = (refl, e)
split_more false o m e = absurd (cc)

-- Appending an id to a path of ids gives a path of ids.
pub all_push : (p : List (List ℕ)) (c : List ℕ) → list_all is_id p ≡ true → is_id c ≡ true
    → list_all is_id (p ++ c ∷ []) ≡ true
all_push [] c h k = rw k refl
all_push (x ∷ xs) c h k =
    rw (first_so (is_id x) (list_all is_id xs) h, all_push xs c (second_so (is_id x) (list_all is_id xs) h) k) refl

marks_push : (p : List (List ℕ)) (c rest : List ℕ) → flat_map before_mark (p ++ c ∷ []) ++ rest
    ≡ flat_map before_mark p ++ (c ++ (58 ∷ 58 ∷ rest))
marks_push [] c rest = simp (append_assoc) refl
marks_push (x ∷ xs) c rest =
    append_assoc (before_mark x) (flat_map before_mark (xs ++ c ∷ [])) rest
    ∙ ap (λ z. before_mark x ++ z) (marks_push xs c rest)
    ∙ sym (append_assoc (before_mark x) (flat_map before_mark xs) (c ++ (58 ∷ 58 ∷ rest)))

-- A name parsed from a path and the components after it has their text.
read_pieces : (path cs : List (List ℕ)) (n : NameParts) → list_all is_id path ≡ true
    → name_of_components path cs ≡ Some n → IsName n × (flat_map before_mark path ++ joined cs ≡ printed_name n)
unfolding name_of_components joined
read_pieces path [] n h e = absurd (cc)
read_pieces path (c ∷ []) n h e =
    let p = split_some (is_id c) (record { path = path; basename = c }) n e in
    let P : NameParts → Type 0 = λ m. IsName m × (flat_map before_mark path ++ c ≡ printed_name m) in
    subst P p.1 ((h, p.0), refl)
read_pieces path (c ∷ d ∷ cs) n h e =
    let p = split_more (is_id c) (name_of_components (path ++ c ∷ []) (d ∷ cs)) n e in
    let r = read_pieces (path ++ c ∷ []) (d ∷ cs) n (all_push path c h p.0) p.1 in
    (r.0, sym (marks_push path c (joined (d ∷ cs))) ∙ r.1)

-- A name that is parsed from a text is valid and has that text as its printed text.
pub name_found : (t : List ℕ) (n : NameParts) → name_of t ≡ Some n → IsName n × (t ≡ printed_name n)
unfolding name_of
name_found t n e =
    let r = read_pieces [] (components t) n refl e in
    (r.0, sym (joined-components t) ∙ r.1)

-- A name that is parsed from a text is the only name with that text.
pub name_some : (t : List ℕ) (n : NameParts) → name_of t ≡ Some n → IsTextOfOne IsNameText n t
name_some t n e = (name_found t n e, λ m h. let f : name_of t ≡ Some m = name_of_text t m h in cc)

pub name_none : (t : List ℕ) → name_of t ≡ None → IsTextOfNone IsNameText t
name_none t e n h = let f : name_of t ≡ Some n = name_of_text t n h in absurd (cc)
