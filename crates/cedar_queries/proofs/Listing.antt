-- A test of the entities of a list that has each entity of an entity map once.
use Rattle.std.specs.Prelude.{◌≡◌, ◌+◌, ◌≤◌, Bool, true, false, cond, ◌&&◌, ◌||◌, List, [], ◌∷◌, ◌++◌, Option, Some, None}
use Rattle.std.specs.Prelude.{map, length, is_some}
use Rattle.std.proofs.Common.{ap, sym, refl, ◌∙◌, subst, arith, Bor}
use Rattle.std.proofs.lemmas.Bool.{false≢true}
use Rattle.std.proofs.lemmas.List.{length-map}
use Rattle.std.proofs.lemmas.List.Folds.{list_any-append}
use Rattle.std.specs.List.{list_any}
use Rattle.std.specs.FinMap as finmap
use Rattle.cedar_ids.specs.UidOf.{same_uid, uid_order}
use Rattle.cedar_ids.specs.laws.UidOfLaws.{same_uid_decides, same_uid_equiv, uid_order_total}
use Rattle.cedar_ids.specs.declared.entity.EntityUID.{EntityUID}
use Rattle.cedar_uid_sets.specs.laws.Sets.{same_tests}
use Rattle.cedar_entity.specs.View.{EntityView}
use Rattle.cedar_entity_maps.specs.Plain.{EntityMap, keyed}
use Rattle.cedar_entities.specs.Answers.{ListsEntityMap}

or_off : (b : Bool) → (b || false) ≡ b
or_off true = refl
or_off false = refl

abbrev Entries : Type 0
Entries = List (EntityUID × EntityView)

abbrev map_of : Entries → EntityMap
map_of es = finmap.from_entries {R = uid_order} es

len_more : (e : EntityUID × EntityView) (es : Entries) → finmap.len (map_of (e ∷ es))
    ≡ cond (finmap.contains_key (map_of es) e.0) (finmap.len (map_of es)) (finmap.len (map_of es) + 1)
len_more e es = finmap.len-insert uid_order_total (map_of es) e.0 e.1

at_most : (e : EntityUID × EntityView) (es : Entries) (b : Bool) → finmap.contains_key (map_of es) e.0 ≡ b
    → finmap.len (map_of es) ≤ length es → finmap.len (map_of (e ∷ es)) ≤ length (e ∷ es)
at_most e es true is h =
    let n : finmap.len (map_of (e ∷ es)) ≡ finmap.len (map_of es) =
    len_more e es ∙ ap (λ b. cond b (finmap.len (map_of es)) (finmap.len (map_of es) + 1)) is in
    omega arith
at_most e es false is h =
    let n : finmap.len (map_of (e ∷ es)) ≡ finmap.len (map_of es) + 1 =
    len_more e es ∙ ap (λ b. cond b (finmap.len (map_of es)) (finmap.len (map_of es) + 1)) is in
    omega arith

len_at_most : (es : Entries) → finmap.len (map_of es) ≤ length es
len_at_most [] = let n : finmap.len (map_of []) ≡ 0 = finmap.len-empty uid_order EntityView in omega arith
len_at_most (e ∷ es) = at_most e es (finmap.contains_key (map_of es) e.0) refl (len_at_most es)

fresh_at : (e : EntityUID × EntityView) (es : Entries) (b : Bool) → finmap.contains_key (map_of es) e.0 ≡ b
    → finmap.len (map_of (e ∷ es)) ≡ length (e ∷ es)
    → (finmap.contains_key (map_of es) e.0 ≡ false) × (finmap.len (map_of es) ≡ length es)
fresh_at e es true is h =
    let n : finmap.len (map_of (e ∷ es)) ≡ finmap.len (map_of es) =
    len_more e es ∙ ap (λ b. cond b (finmap.len (map_of es)) (finmap.len (map_of es) + 1)) is in
    let m = len_at_most es in
    absurd (omega arith)
fresh_at e es false is h =
    let n : finmap.len (map_of (e ∷ es)) ≡ finmap.len (map_of es) + 1 =
    len_more e es ∙ ap (λ b. cond b (finmap.len (map_of es)) (finmap.len (map_of es) + 1)) is in
    (is, omega arith)

-- If the map of the entries has as many keys as there are entries, the first key is not among the others.
fresh : (e : EntityUID × EntityView) (es : Entries) → finmap.len (map_of (e ∷ es)) ≡ length (e ∷ es)
    → (finmap.contains_key (map_of es) e.0 ≡ false) × (finmap.len (map_of es) ≡ length es)
fresh e es h = fresh_at e es (finmap.contains_key (map_of es) e.0) refl h

is_none : {X : Type 0} (o : Option X) → is_some o ≡ false → o ≡ None
is_none None h = refl
is_none (Some x) h = absurd (false≢true (sym h))

module _ (q : EntityUID) (test : EntityView → Bool) (value : Option EntityView → Bool) (absent : value None ≡ false)
    (present : (e : EntityView) → value (Some e) ≡ test e) where
  abbrev passes : EntityView → Bool
  passes e = same_uid e.uid q && test e

  at : (e : EntityView) (es : List EntityView) (b : Bool) → same_uid e.uid q ≡ b
      → finmap.contains_key (map_of (map keyed es)) e.uid ≡ false
      → list_any passes es ≡ value (finmap.find uid_order q (map keyed es))
      → list_any passes (e ∷ es) ≡ value (cond (same_uid q e.uid) (Some e) (finmap.find uid_order q (map keyed es)))
  at e es true is new rest =
      let same = (same_uid_decides e.uid q).0 is in
      let none : finmap.find uid_order q (map keyed es) ≡ None =
      sym (finmap.get-from_entries uid_order_total (map keyed es) q)
      ∙ is_none (finmap.get (map_of (map keyed es)) q)
      (subst (λ u. finmap.contains_key (map_of (map keyed es)) u ≡ false) same new) in
      ap (λ b. (b && test e) || list_any passes es) is
      ∙ ap (λ b. test e || b) (rest ∙ ap value none ∙ absent)
      ∙ or_off (test e) ∙ sym (present e)
      ∙ ap (λ b. value (cond b (Some e) (finmap.find uid_order q (map keyed es)))) (sym is ∙ same_uid_equiv.symm e.uid q)
  at e es false is new rest =
      ap (λ b. (b && test e) || list_any passes es) is ∙ rest
      ∙ ap (λ b. value (cond b (Some e) (finmap.find uid_order q (map keyed es)))) (sym is ∙ same_uid_equiv.symm e.uid q)

  in_entries : (es : List EntityView) → finmap.len (map_of (map keyed es)) ≡ length (map keyed es)
      → list_any passes es ≡ value (finmap.find uid_order q (map keyed es))
  in_entries [] h = sym absent
  in_entries (e ∷ es) h =
      let f = fresh (keyed e) (map keyed es) h in
      at e es (same_uid e.uid q) refl f.0 (in_entries es f.1)
      ∙ ap (λ t. value (cond (t q e.uid) (Some e) (finmap.find uid_order q (map keyed es)))) (sym same_tests)

  -- An entity of the list has the uid q and passes the test exactly if the entity at q passes it.
  pub in_listed : (D : EntityMap) (es : List EntityView) → ListsEntityMap D es
      → list_any passes es ≡ value (finmap.get D q)
  in_listed D es lists =
      in_entries es (ap (λ (m : EntityMap). finmap.len m) lists.entities ∙ sym lists.once
      ∙ sym (length-map {B = EntityUID × EntityView} es keyed))
      ∙ ap value (sym (finmap.get-from_entries uid_order_total (map keyed es) q))
      ∙ ap (λ (m : EntityMap). value (finmap.get m q)) lists.entities

map_append_one : {X Y : Type 0} (f : X → Y) (xs : List X) (x : X) → map f (xs ++ x ∷ []) ≡ map f xs ++ f x ∷ []
map_append_one f [] x = refl
map_append_one f (y ∷ ys) x = ap (λ l. f y ∷ l) (map_append_one f ys x)

-- A test of the values that an iterator has returned, with the next value.
pub any_next : {X : Type 0} (test : X → Bool) (done : List (Bor X)) (x : Bor X)
    → list_any test (map (λ y. y.now) (done ++ x ∷ [])) ≡ (list_any test (map (λ y. y.now) done) || test x.now)
any_next test done x = ap (list_any test) (map_append_one (λ y. y.now) done x)
    ∙ list_any-append test (map (λ y. y.now) done) (x.now ∷ [])
    ∙ ap (λ b. list_any test (map (λ y. y.now) done) || b) (or_off (test x.now))
