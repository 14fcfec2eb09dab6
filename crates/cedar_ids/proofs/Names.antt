-- The steps of parsing a name, component by component.
use Rattle.std.proofs.Common.{◌≡◌, ℕ, List, [], ◌∷◌, ◌++◌, true, false, refl, sym, ap, ◌∙◌, Option, Some, None, Err}
use Rattle.cedar_ids.specs.declared.err.ParseErrors.{ParseErrors}
use Rattle.cedar_ids.specs.declared.err.ParseErrors.TheVariants.{NotNormalized, InvalidName, Memory}
use Rattle.cedar_ids.specs.Name.{NameParts}
use Rattle.cedar_ids.specs.TextOf.{IsIdText}
use Rattle.cedar_ids.specs.Reads.{Reads, IsTextOfOne, IsTextOfNone}
use Rattle.std.proofs.lemmas.Bool.{false_from_ne_true}
use Rattle.cedar_ids.specs.Reading.{is_id}
use Rattle.cedar_ids.specs.laws.NameReading.{components, name_of_components}
use Rattle.cedar_ids.specs.laws.NameTextLaws.{some_piece, names_more, names_last}

-- A component that was parsed is an id with that text.
pub id_some : (t x : List ℕ) → IsTextOfOne IsIdText x t → (is_id t ≡ true) × (t ≡ x)
id_some t x h = (ap is_id h.0.1 ∙ h.0.0, h.0.1)

-- A component that was not parsed is not an id.
pub id_none : (t : List ℕ) → IsTextOfNone IsIdText t → is_id t ≡ false
id_none t h = false_from_ne_true (is_id t) (λ e. h t (e, refl))

-- The step for a component that is an id and not the last one.
pub one_more : (path : List (List ℕ)) (front back rest x : List ℕ) (all : Option NameParts)
    → components rest ≡ front ∷ components back → IsTextOfOne IsIdText x front
    → name_of_components path (components rest) ≡ all → name_of_components (path ++ x ∷ []) (components back) ≡ all
one_more path front back rest x all e f g =
    let p = some_piece back in
    let q = id_some front x f in
    let k = rw q.0 at (names_more path front p.0 p.1) in
    let i : components rest ≡ front ∷ p.0 ∷ p.1 = e ∙ ap (λ z. front ∷ z) p.2 in
    let j : name_of_components path (front ∷ p.0 ∷ p.1) ≡ all = rw (← i) g in
    ap (name_of_components (path ++ x ∷ [])) p.2 ∙ sym (ap (λ y. name_of_components (path ++ y ∷ []) (p.0 ∷ p.1)) q.1)
    ∙ sym k ∙ j

-- A component that is not an id makes the text invalid.
pub not_more : (path : List (List ℕ)) (front back rest : List ℕ) (all : Option NameParts)
    → components rest ≡ front ∷ components back → IsTextOfNone IsIdText front
    → name_of_components path (components rest) ≡ all → all ≡ None
not_more path front back rest all e f g =
    let p = some_piece back in
    let k = rw (id_none front f) at (names_more path front p.0 p.1) in
    let i : components rest ≡ front ∷ p.0 ∷ p.1 = e ∙ ap (λ z. front ∷ z) p.2 in
    let j : name_of_components path (front ∷ p.0 ∷ p.1) ≡ all = rw (← i) g in
    sym j ∙ k

-- The step for the last component.
pub at_last : (path : List (List ℕ)) (rest x : List ℕ) (all : Option NameParts) → components rest ≡ rest ∷ []
    → IsTextOfOne IsIdText x rest → name_of_components path (components rest) ≡ all
    → all ≡ Some (record { path = path; basename = x })
at_last path rest x all e f g =
    let q = id_some rest x f in
    let k = rw q.0 at (names_last path rest) in
    let j : name_of_components path (rest ∷ []) ≡ all = rw (← e) g in
    sym j ∙ k ∙ ap (λ y. Some (record { path = path; basename = y })) q.1

pub not_last : (path : List (List ℕ)) (rest : List ℕ) (all : Option NameParts) → components rest ≡ rest ∷ []
    → IsTextOfNone IsIdText rest → name_of_components path (components rest) ≡ all → all ≡ None
not_last path rest all e f g =
    let k = rw (id_none rest f) at (names_last path rest) in
    let j : name_of_components path (rest ∷ []) ≡ all = rw (← e) g in
    sym j ∙ k

-- The error of a component is the error of the whole text.
pub same_error : {X Y : Type 0} (P : X → List ℕ → Type 0) (Q : Y → List ℕ → Type 0) (e : ParseErrors) (s t : List ℕ)
    → (IsTextOfNone P s → IsTextOfNone Q t) → Reads P (Err e) s → Reads Q (Err e) t
same_error P Q NotNormalized s t f h = absurd h
same_error P Q InvalidName s t f h = f h
same_error P Q Memory s t f h = tt
