-- The uids at which two stores may differ.
use Rattle.std.specs.Prelude.{◌≡◌, Bool, true, false, cond, ◌||◌, List, [], ◌∷◌, ◌++◌, map, Option, Some, None, is_some}
use Rattle.std.proofs.Common.{ap, sym, refl, subst, ◌∙◌, Bor}
use Rattle.std.proofs.lemmas.Bool.{false≢true}
use Rattle.std.proofs.lemmas.List.Folds.{list_any-append}
use Rattle.std.specs.List.{AllByRecursion}
use Rattle.std.specs.Option.{IfSome}
use Rattle.std.specs.FinMap as finmap
use Rattle.std.specs.Set.{is_member}
use Rattle.cedar_ids.specs.UidOf.{same_uid, uid_order}
use Rattle.cedar_ids.specs.laws.UidOfLaws.{same_uid_decides, uid_order_total}
use Rattle.cedar_ids.specs.declared.entity.EntityUID.{EntityUID}
use Rattle.cedar_uid_sets.specs.laws.Sets.{same_tests}
use Rattle.cedar_entity.specs.View.{EntityView}
use Rattle.cedar_entity_maps.specs.Plain.{EntityMap, keyed}
use Rattle.cedar_entities.specs.Answers.{ListsEntityMap}
use Rattle.cedar_entity_diff.specs.laws.Listed.{Pushes}

or_none : (a b : Bool) → (a || b) ≡ false → (a ≡ false) × (b ≡ false)
or_none true b h = absurd (false≢true (sym h))
or_none false b h = (refl, h)

-- A list with the uid appended.
pub pushed : (us : List EntityUID) (u : EntityUID) (P : Type 0) (vs : List EntityUID) → vs ≡ us ++ u ∷ [] → Pushes us u P vs
pushed us u P vs is = record {
  stays = λ q h. (or_none (is_member same_uid us q) (is_member same_uid (u ∷ []) q) (split q h)).0;
  finds =
      λ h. let last = (or_none (is_member same_uid us u) (is_member same_uid (u ∷ []) u) (split u h)).1 in
      absurd (false≢true (sym last ∙ ap (λ b. b || false) ((same_uid_decides u u).1 refl)));
}
  where
    split : (q : EntityUID) → is_member same_uid vs q ≡ false
        → (is_member same_uid us q || is_member same_uid (u ∷ []) q) ≡ false
    split q h = sym (list_any-append (same_uid q) us (u ∷ [])) ∙ ap (λ l. is_member same_uid l q) (sym is) ∙ h

-- The same list.
pub not_pushed : (us : List EntityUID) (u : EntityUID) (P : Type 0) → P → Pushes us u P us
not_pushed us u P p = record { stays = λ q h. h; finds = λ h. p }

-- Holds if P holds for each entity of the list whose uid is not among the uids.
abbrev pub HoldsUnless : (EntityView → Type 0) → List EntityUID → List EntityView → Type 0
HoldsUnless P us es = AllByRecursion (λ e. is_member same_uid us e.uid ≡ false → P e) es

stays_all : (P : EntityView → Type 0) (us vs : List EntityUID)
    → ((q : EntityUID) → is_member same_uid vs q ≡ false → is_member same_uid us q ≡ false) → (es : List EntityView)
    → HoldsUnless P us es → HoldsUnless P vs es
stays_all P us vs stays [] h = tt
stays_all P us vs stays (e ∷ es) h = (λ m. h.0 (stays e.uid m), stays_all P us vs stays es h.1)

all_push : (P : EntityView → Type 0) (es : List EntityView) (e : EntityView) → AllByRecursion P es → P e
    → AllByRecursion P (es ++ e ∷ [])
all_push P [] e h p = (p, tt)
all_push P (x ∷ es) e h p = (h.0, all_push P es e h.1 p)

map_append_one : {X Y : Type 0} (f : X → Y) (xs : List X) (x : X) → map f (xs ++ x ∷ []) ≡ map f xs ++ f x ∷ []
map_append_one f [] x = refl
map_append_one f (y ∷ ys) x = ap (λ l. f y ∷ l) (map_append_one f ys x)

-- One more entity, after its uid was pushed unless P holds.
pub holds_more : (P : EntityView → Type 0) (us vs : List EntityUID) (done : List (Bor EntityView)) (x : Bor EntityView)
    → HoldsUnless P us (map (λ y. y.now) done) → Pushes us x.now.uid (P x.now) vs
    → HoldsUnless P vs (map (λ y. y.now) (done ++ x ∷ []))
holds_more P us vs done x h p =
    subst (HoldsUnless P vs) (sym (map_append_one (λ y. y.now) done x))
    (all_push (λ e. is_member same_uid vs e.uid ≡ false → P e) (map (λ y. y.now) done) x.now
    (stays_all P us vs p.stays (map (λ y. y.now) done) h) p.finds)

at_first : (P : EntityView → Type 0) (q : EntityUID) (e : EntityView) (rest : Option EntityView) (b : Bool)
    → same_uid q e.uid ≡ b → P e → IfSome rest P → IfSome (cond b (Some e) rest) P
at_first P q e rest true is p h = p
at_first P q e rest false is p h = h

in_list : (P : EntityView → Type 0) (q : EntityUID) (es : List EntityView) → AllByRecursion P es
    → IfSome (finmap.find uid_order q (map keyed es)) P
in_list P q [] h = tt
in_list P q (e ∷ es) h =
    subst (λ t. IfSome (cond (t q e.uid) (Some e) (finmap.find uid_order q (map keyed es))) P) (sym same_tests)
    (at_first P q e (finmap.find uid_order q (map keyed es)) (same_uid q e.uid) refl h.0 (in_list P q es h.1))

at_uid : (P : EntityView → Type 0) (us : List EntityUID) (q : EntityUID) (o : Option EntityView)
    → IfSome o (λ e. e.uid ≡ q) → is_member same_uid us q ≡ false
    → IfSome o (λ e. is_member same_uid us e.uid ≡ false → P e) → IfSome o P
at_uid P us q None k m h = tt
at_uid P us q (Some e) k m h = h (ap (is_member same_uid us) k ∙ m)

-- P holds for each entity of the map whose uid is not among the uids.
pub holds_at : (P : EntityView → Type 0) (us : List EntityUID) (D : EntityMap) (es : List EntityView)
    → ListsEntityMap D es → ((q : EntityUID) → IfSome (finmap.get D q) (λ e. e.uid ≡ q)) → HoldsUnless P us es
    → (q : EntityUID) → is_member same_uid us q ≡ false → IfSome (finmap.get D q) P
holds_at P us D es lists key h q m =
    at_uid P us q (finmap.get D q) (key q) m
    (subst (λ o. IfSome o (λ e. is_member same_uid us e.uid ≡ false → P e))
    (sym (finmap.get-from_entries uid_order_total (map keyed es) q)
    ∙ ap (λ (d : EntityMap). finmap.get d q) lists.entities)
    (in_list (λ e. is_member same_uid us e.uid ≡ false → P e) q es h))

-- Two lookups are equal if each entity of the first is in the second, and the second has none where the first has none.
pub equal_lookups : (o n : Option EntityView) → IfSome o (λ e. n ≡ Some e) → IfSome n (λ e. is_some o ≡ true) → o ≡ n
equal_lookups None None h g = refl
equal_lookups None (Some e) h g = absurd (false≢true g)
equal_lookups (Some e) n h g = sym h

-- A fact of an entity and its uid is a fact of the uid under which it is stored.
pub at_key : (Q : EntityUID → EntityView → Type 0) (q : EntityUID) (o : Option EntityView) → IfSome o (λ e. e.uid ≡ q)
    → IfSome o (λ e. Q e.uid e) → IfSome o (Q q)
at_key Q q None k h = tt
at_key Q q (Some e) k h = subst (λ u. Q u e) k h
