-- Fields as the texts of uids.
use Rattle.std.specs.Prelude.{◌≡◌, ℕ, zero, suc, ◌+◌, ◌<◌, List, [], ◌∷◌, ◌++◌, map, codes, length, ◌==◌, Bool, true}
use Rattle.std.specs.Prelude.{false}
use Rattle.std.proofs.Common.{refl, sym, ◌∙◌, get_or, take, arith}
use Rattle.std.proofs.lemmas.Bool.{false≢true}
use Rattle.std.specs.Borrow.{Bor}
use Rattle.std.proofs.lemmas.List.{map-append, take_more}
use borrow.Author.Tests.{eqb-true}
use Rattle.cedar_ids.specs.declared.entity.EntityUID.{EntityUID}
use Rattle.cedar_entity_lines.specs.EntityCommand.{EntityCommand, AreTexts, IsEntityCommand}
use Rattle.cedar_entity_lines.specs.laws.ReadCommands.{Text, no_fields, no_such_word}

-- One more text and one more uid.
pub texts_push : (us : List EntityUID) (ts : List (List ℕ)) (u : EntityUID) (t : List ℕ) → AreTexts us ts → Text u t
    → AreTexts (us ++ u ∷ []) (ts ++ t ∷ [])
texts_push [] [] u t h p = (p, tt)
texts_push [] (x ∷ ts) u t h p = absurd h
texts_push (v ∷ us) [] u t h p = absurd h
texts_push (v ∷ us) (x ∷ ts) u t h p = (h.0, texts_push us ts u t h.1 p)

-- One more field and one more uid.
pub texts_more : (us : List EntityUID) (fs : List (Bor (List ℕ))) (i : ℕ) (d : Bor (List ℕ)) (u : EntityUID)
    → i < length fs → AreTexts us (map (λ f. f.now) (take i fs)) → Text u (get_or fs i d).now
    → AreTexts (us ++ u ∷ []) (map (λ f. f.now) (take (i + 1) fs))
texts_more us fs i d u l h p =
    rw (take_more fs i d l, map-append) (texts_push us (map (λ f. f.now) (take i fs)) u (get_or fs i d).now h p)

-- If one field is not the text of a uid, the fields are not texts of uids.
pub no_texts : (fs : List (Bor (List ℕ))) (i : ℕ) (d : Bor (List ℕ)) → i < length fs
    → ((u : EntityUID) → Text u (get_or fs i d).now → ⊥) → (us : List EntityUID) → AreTexts us (map (λ f. f.now) fs) → ⊥
no_texts [] i d l none us h = absurd (omega arith)
no_texts (f ∷ fs) i d l none [] h = h
no_texts (f ∷ fs) zero d l none (u ∷ us) h = none u h.0
no_texts (f ∷ fs) (suc i) d l none (u ∷ us) h = no_texts fs i d (omega arith) none us h.1

-- If the first field is not the text of a uid, the fields are not texts of uids.
pub no_first_text : (f : Bor (List ℕ)) (fs : List (Bor (List ℕ))) → ((u : EntityUID) → Text u f.now → ⊥)
    → (us : List EntityUID) → AreTexts us (map (λ f. f.now) (f ∷ fs)) → ⊥
no_first_text f fs none [] h = h
no_first_text f fs none (u ∷ us) h = none u h.0

-- The only field is the text of a uid.
pub one_field : (f : Bor (List ℕ)) (fs : List (Bor (List ℕ))) (b : Bool) → b ≡ (length fs == 0) → b ≡ true
    → (u : EntityUID) → Text u f.now → AreTexts (u ∷ []) (map (λ f. f.now) (f ∷ fs))
one_field f [] b e t u h = (h, tt)
one_field f (g ∷ fs) b e t u h = let z : length (g ∷ fs) ≡ 0 = eqb-true (length (g ∷ fs)) 0 (sym e ∙ t) in
    absurd (omega arith)

-- An empty list of fields is not a command.
pub no_fields_seen : (fs : List (Bor (List ℕ))) → length fs ≡ 0 → (c : EntityCommand)
    → IsEntityCommand c (map (λ f. f.now) fs) → ⊥
no_fields_seen [] e c h = no_fields c h
no_fields_seen (f ∷ fs) e c h = absurd (omega arith)

-- A word before other fields is `ent`, `remove`, `slice` or `anc`, or the fields are not a command.
pub no_such_fields : (w : List ℕ) (fs : List (Bor (List ℕ))) (b : Bool) → b ≡ (length fs == 0) → b ≡ false
    → (w ≡ codes "ent" → ⊥) → (w ≡ codes "remove" → ⊥) → (w ≡ codes "slice" → ⊥) → (w ≡ codes "anc" → ⊥)
    → (c : EntityCommand) → IsEntityCommand c (w ∷ map (λ f. f.now) fs) → ⊥
no_such_fields w [] b e t ent remove cut anc = absurd (false≢true (sym t ∙ e))
no_such_fields w (f ∷ fs) b e t ent remove cut anc = no_such_word w f.now (map (λ f. f.now) fs) ent remove cut anc

-- An empty list of fields is not one or more texts of uids.
pub no_uids : (fs : List (Bor (List ℕ))) (b : Bool) → b ≡ (length fs == 0) → b ≡ true → (us : List EntityUID)
    → (us ≡ [] → ⊥) × AreTexts us (map (λ f. f.now) fs) → ⊥
no_uids [] b e t [] h = h.0 refl
no_uids [] b e t (u ∷ us) h = h.1
no_uids (f ∷ fs) b e t us h = let z : length (f ∷ fs) ≡ 0 = eqb-true (length (f ∷ fs)) 0 (sym e ∙ t) in
    absurd (omega arith)
