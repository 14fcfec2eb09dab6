-- The printed text of a name parses to that name, and belongs to no other name.
use Rattle.std.proofs.Common.{◌≡◌, ℕ, List, [], ◌∷◌, ◌++◌, Bool, true, false, ◌&&◌, cond, refl, sym, ap, ◌∙◌}
use Rattle.std.proofs.Common.{append_assoc, Some, None, inl, inr}
use mathlib.Core.List.{append-nil}
use Rattle.std.proofs.lemmas.Bool.{false≢true}
use Rattle.std.proofs.lemmas.Bool.Decides.{eqb_tells}
use Rattle.std.specs.Prelude.{◌==◌, not}
use Rattle.std.specs.Cmp.{first_so, second_so}
use Rattle.std.specs.List.{flat_map, list_all}
use Rattle.cedar_ids.specs.Name.{NameParts}
use Rattle.cedar_ids.specs.Printed.{before_mark, printed_name}
use Rattle.cedar_ids.specs.Reading.{is_id, is_identifier, is_id_part, is_id_start, is_reserved}
use Rattle.cedar_ids.specs.laws.NameReading.{components, onto_first, name_of_components, name_of}
use Rattle.cedar_ids.specs.TextOf.{IsName, IsNameText}

onto_piece : (b : ℕ) (cs : List (List ℕ)) → (d : List ℕ) × (ds : List (List ℕ)) × (onto_first b cs ≡ d ∷ ds)
onto_piece b [] = (b ∷ [], [], refl)
onto_piece b (c ∷ cs) = (b ∷ c, cs, refl)

if_piece : (t : Bool) (x y : List (List ℕ)) → (d : List ℕ) × (ds : List (List ℕ)) × (x ≡ d ∷ ds) → (d : List ℕ)
    × (ds : List (List ℕ)) × (y ≡ d ∷ ds) → (d : List ℕ) × (ds : List (List ℕ)) × (cond t x y ≡ d ∷ ds)
if_piece true x y p q = p
if_piece false x y p q = q

-- A text has at least one component.
pub some_piece : (s : List ℕ) → (d : List ℕ) × (ds : List (List ℕ)) × (components s ≡ d ∷ ds)
unfolding components
some_piece [] = ([], [], refl)
some_piece (b ∷ []) = (b ∷ [], [], refl)
some_piece (b ∷ c ∷ bs) = if_piece _ _ _ ([], components bs, refl) (onto_piece b (components (c ∷ bs)))

pub names_more : (path : List (List ℕ)) (c d : List ℕ) (ds : List (List ℕ))
    → name_of_components path (c ∷ d ∷ ds) ≡ cond (is_id c) (name_of_components (path ++ c ∷ []) (d ∷ ds)) None
unfolding name_of_components
names_more path c d ds = refl

pub names_last : (path : List (List ℕ)) (c : List ℕ) → name_of_components path (c ∷ [])
    ≡ cond (is_id c) (Some (record { path = path; basename = c })) None
unfolding name_of_components
names_last path c = refl

no_colon : List ℕ → Bool
no_colon bs = list_all is_id_part bs

colon_not : (b : ℕ) → is_id_part b ≡ true → (b == 58) ≡ false
colon_not b h = elim (eqb_tells b 58) as (λ _. (b == 58)
    ≡ false) [ inl w ↦ absurd (false≢true (sym (ap is_id_part w.1) ∙ h)) | inr w ↦ w.0 ]

start_is_part : (b : ℕ) → is_id_start b ≡ true → is_id_part b ≡ true
start_is_part b h = rw h refl

pub id_parts : (c : List ℕ) → is_id c ≡ true → list_all is_id_part c ≡ true
unfolding is_id
id_parts [] h = refl
id_parts (b ∷ bs) h =
    let i : (is_id_start b && list_all is_id_part bs) ≡ true =
    first_so (is_identifier (b ∷ bs)) (not (is_reserved (b ∷ bs))) h in
    rw (
      start_is_part b (first_so (is_id_start b) (list_all is_id_part bs) i),
      second_so (is_id_start b) (list_all is_id_part bs) i,
    ) refl

part_first : (b : ℕ) (bs : List ℕ) → list_all is_id_part (b ∷ bs) ≡ true → (b == 58) ≡ false
part_first b bs h = colon_not b (first_so (is_id_part b) (list_all is_id_part bs) h)

part_rest : (b : ℕ) (bs : List ℕ) → list_all is_id_part (b ∷ bs) ≡ true → list_all is_id_part bs ≡ true
part_rest b bs h = second_so (is_id_part b) (list_all is_id_part bs) h

one_piece : (c : List ℕ) → list_all is_id_part c ≡ true → components c ≡ c ∷ []
unfolding components
one_piece [] h = refl
one_piece (b ∷ []) h = refl
one_piece (b ∷ d ∷ bs) h = rw (part_first b (d ∷ bs) h, one_piece (d ∷ bs) (part_rest b (d ∷ bs) h)) refl

first_piece : (c rest : List ℕ) → list_all is_id_part c ≡ true
    → components (c ++ (58 ∷ 58 ∷ rest)) ≡ c ∷ components rest
unfolding components
first_piece [] rest h = refl
first_piece (b ∷ []) rest h = rw (part_first b [] h) refl
first_piece (b ∷ d ∷ bs) rest h = rw (part_first b (d ∷ bs) h, first_piece (d ∷ bs) rest (part_rest b (d ∷ bs) h)) refl

mark_then : (c rest : List ℕ) → before_mark c ++ rest ≡ c ++ (58 ∷ 58 ∷ rest)
mark_then c rest = append_assoc c (58 ∷ 58 ∷ []) rest

pieces_back : (acc p : List (List ℕ)) (b : List ℕ) → list_all is_id p ≡ true → is_id b ≡ true
    → name_of_components acc (components (flat_map before_mark p ++ b))
    ≡ Some (record { path = acc ++ p; basename = b })
pieces_back acc [] b h k =
    ap (name_of_components acc) (one_piece b (id_parts b k)) ∙ (rw k at (names_last acc b))
    ∙ ap (λ z. Some (record { path = z; basename = b })) (sym (append-nil acc))
pieces_back acc (c ∷ cs) b h k =
    let i : is_id c ≡ true = first_so (is_id c) (list_all is_id cs) h in
    let j : list_all is_id cs ≡ true = second_so (is_id c) (list_all is_id cs) h in
    let p = some_piece (flat_map before_mark cs ++ b) in
    ap (λ z. name_of_components acc (components z)) (append_assoc (before_mark c) (flat_map before_mark cs) b
    ∙ mark_then c (flat_map before_mark cs ++ b))
    ∙ ap (name_of_components acc) (first_piece c (flat_map before_mark cs ++ b) (id_parts c i) ∙ ap (λ z. c ∷ z) p.2)
    ∙ (rw i at (names_more acc c p.0 p.1))
    ∙ ap (name_of_components (acc ++ c ∷ [])) (sym p.2)
    ∙ pieces_back (acc ++ c ∷ []) cs b j k
    ∙ ap (λ z. Some (record { path = z; basename = b })) (append_assoc acc (c ∷ []) cs)

-- The printed text of a name parses to that name.
pub name_of-printed : (n : NameParts) → IsName n → name_of (printed_name n) ≡ Some n
unfolding name_of
name_of-printed n h = pieces_back [] n.path n.basename h.0 h.1

-- The text of a name parses to that name.
pub name_of_text : (t : List ℕ) (n : NameParts) → IsNameText n t → name_of t ≡ Some n
name_of_text t n h = ap name_of h.1 ∙ name_of-printed n h.0

-- No text is the printed text of two names.
pub printed_name_injective : (n m : NameParts) (t : List ℕ) → IsNameText n t → IsNameText m t → n ≡ m
printed_name_injective n m t h k =
    let i : name_of t ≡ Some n = name_of_text t n h in
    let j : name_of t ≡ Some m = name_of_text t m k in
    cc
