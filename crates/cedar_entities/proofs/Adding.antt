-- Additions to any store and to the plain store of an input store.
use Rattle.std.specs.Prelude.{◌≡◌, ◌↔◌, Bool, true, false, cond, not, ◌&&◌, ◌||◌, List, [], ◌∷◌, ◌++◌, Option, Some}
use Rattle.std.specs.Prelude.{None, map}
use Rattle.std.proofs.Common.{ap, sym, refl, subst, ◌∙◌}
use Rattle.std.proofs.lemmas.Bool.{and_parts, both_ways, false≢true, false_from_ne_true, not-true}
use Rattle.std.proofs.lemmas.List.{map-append}
use Rattle.std.proofs.Math.Bool.{and-false, and-true, or-false}
use Rattle.std.proofs.lemmas.Simd.{map-map}
use Rattle.std.proofs.lemmas.Map.Made.{is_member-filter}
use Rattle.std.specs.Option.{option_or, option_map, IfSome, is_some, unwrap_or}
use Rattle.std.specs.List.{AllByRecursion, list_any}
use Rattle.std.specs.Set.{is_member}
use Rattle.std.specs.FinSet as set
use Rattle.std.specs.Bool.{OnTrue}
use Rattle.std.specs.FinMap as finmap
use Rattle.std.specs.FinMap.Entries.{is_some-find}
use Rattle.cedar_graph.specs.Graph.{Reach}
use Rattle.cedar_graph.specs.declared.err.TcError.{TcError}
use Rattle.cedar_ids.specs.UidOf.{same_uid, uid_order}
use Rattle.cedar_ids.specs.laws.UidOfLaws.{same_uid_decides, same_uid_equiv, uid_order_total}
use Rattle.cedar_ids.specs.declared.entity.EntityUID.{EntityUID}
use Rattle.cedar_uid_sets.specs.laws.Sets.{one_equal, same_tests}
use Rattle.cedar_entity.specs.View.{EntityView, has_ancestor, IsDeepEqual}
use Rattle.cedar_entity.specs.laws.Views.{deep_equality, parents_are_ancestors}
use Rattle.cedar_entity_maps.specs.EditErrors.{NamesCycle}
use Rattle.cedar_entity_maps.specs.Plain.{StoreView, EntityMap, IsPlainStore, HasNoIndirect, HaveNoIndirect, parts_of, input_of, keyed}
use Rattle.cedar_entity_maps.specs.Modes.{ancestry, computes}
use Rattle.cedar_entity_maps.specs.Edits.{is_stale, uids_of}
use Rattle.cedar_entity_maps.specs.laws.Edits.{remains, IsEdit}
use Rattle.cedar_entity_maps.specs.Affected.{inserted_in, is_affected, IsEnded, IsEndError}
use Rattle.cedar_entities.proofs.PlainEdits.{ended_plain, made_outside, names_cycle, IsPlainEdit}
use Rattle.cedar_entity_maps.specs.laws.AnyOf.{any_found, none_retained}
use Rattle.cedar_entity_maps.specs.laws.Keyed.{cond_holds}
use Rattle.cedar_entity_maps.specs.declared.modes.EditRules.{EditRules}
use Rattle.cedar_entities.specs.Present.{first_entity, with_first, MatchesPresent, AllMatch, FirstMismatch}
use Rattle.cedar_entity_maps.specs.InputStore.{InputStore, Parts, InputEntity, graph, added, first, Agrees, AgreesWith, AgreesWithFirst}
use Rattle.cedar_entity_maps.specs.InputStore.{AllAgree, FirstDiffers}
use Rattle.cedar_entities.proofs.StoreMaps.{get_with_first}
use Rattle.cedar_entities.proofs.Versions.{or_none}
use Rattle.cedar_entity_maps.specs.laws.InputStores.{get_added}
use Rattle.cedar_entities.proofs.PlainStores.{found_parts, map_or, first_all, first_keyed, parents_alone}

-- There is a first entity with a uid if and only if the uid is in the list.
pub first_some : (L : List EntityView) (q : EntityUID) → is_some (first_entity L q) ≡ is_member same_uid (uids_of L) q
first_some L q = is_some-find uid_order q (map keyed L)
    ∙ (λ i. list_any (same_tests i q) (map-map (λ e. e.0) keyed L i))

-- The members of the list of inserted uids.
pub inserted_members : (D : EntityMap) (L : List EntityView) (q : EntityUID)
    → is_member same_uid (inserted_in D L) q ≡ (is_member same_uid (uids_of L) q && not (finmap.contains_key D q))
inserted_members D L q =
    is_member-filter same_uid_equiv (λ u. not (finmap.contains_key D u)) q
    (λ x t. ap (λ u. not (finmap.contains_key D u)) ((same_uid_decides q x).0 t)) (uids_of L)

one_in : (k m : Bool) (o : Option EntityView) → is_some o ≡ m → (m && not k) ≡ (is_some (cond k None o) || false)
one_in true m o h = and-false m
one_in false m o h = and-true m ∙ sym h ∙ sym (or-false (is_some o))

-- No inserted uid is in D, so no ancestor is stale.
none_among : (D : EntityMap) (L : List EntityView) (e : EntityView) (w : EntityUID)
    → list_any (is_stale D e w) (inserted_in D L) ≡ false
none_among D L e w = false_from_ne_true (list_any (is_stale D e w) (inserted_in D L)) (λ t.
    let f = any_found (is_stale D e w) (inserted_in D L) t in
    both_ways (finmap.contains_key D f.0)
    (not-true (finmap.contains_key D f.0)
    (and_parts (is_member same_uid (uids_of L) f.0) (not (finmap.contains_key D f.0))
    (sym (inserted_members D L f.0) ∙ f.1)).1)
    (and_parts (finmap.contains_key D f.0) (has_ancestor e f.0)
    (and_parts (finmap.contains_key D f.0 && has_ancestor e f.0) (same_uid f.0 w || ancestry D f.0 w) f.2).0).0)

all_remains : (D : EntityMap) (L : List EntityView) (o : Option EntityView)
    → o ≡ option_map (remains D (λ _. false) (inserted_in D L)) o
all_remains D L None = refl
all_remains D L (Some e) = λ i. Some (record e {
  parents = sym (none_retained e.parents (λ _. false) (λ y _. refl)) i;
  indirect = sym (none_retained e.indirect (λ w. list_any (is_stale D e w) (inserted_in D L))
      (λ w _. none_among D L e w)) i;
})

-- The entities that an addition inserts.
abbrev pub added_first : EntityMap → List EntityView → EntityUID → Option EntityView
added_first D L q = cond (finmap.contains_key D q) None (first_entity L q)

-- An addition is an edit that removes nothing.
pub add_edit : (D : EntityMap) (L : List EntityView)
    → IsEdit D (with_first D L) (λ _. false) (added_first D L) (inserted_in D L)
add_edit D L = record {
  applied = λ q. inserted_members D L q
      ∙ one_in (finmap.contains_key D q) (is_member same_uid (uids_of L) q) (first_entity L q) (first_some L q);
  made = λ q. get_with_first D L q ∙ at q (finmap.get D q)
      ∙ ap (option_or (added_first D L q)) (all_remains D L (finmap.get D q));
}
  where
    at : (q : EntityUID) (o : Option EntityView) → option_or o (first_entity L q)
        ≡ option_or (cond (is_some o) None (first_entity L q)) o
    at q None = or_none (first_entity L q)
    at q (Some e) = refl

-- A uid that is not inserted has the same entity as before.
pub added_same : (D : EntityMap) (L : List EntityView) (q : EntityUID) → is_member same_uid (inserted_in D L) q ≡ false
    → finmap.get (with_first D L) q ≡ finmap.get D q
added_same D L q h = made_outside (add_edit D L) q h ∙ sym (all_remains D L (finmap.get D q))

module _ (W : InputStore) (S : StoreView) (L : List EntityView) (plain : IsPlainStore W S) (bare : HaveNoIndirect L) where
  adding : IsPlainEdit W (added W (map input_of L)) S (with_first S.entities L) (λ _. false) (added_first S.entities L)
      (inserted_in S.entities L)
  adding = record {
    plain = plain;
    made = add_edit S.entities L;
    there = λ q t. absurd (false≢true t);
    bare = λ q. cond_holds HasNoIndirect (finmap.contains_key S.entities q) (first_entity L q) (first_all HasNoIndirect L bare q);
    keyed = λ q. cond_holds (λ e. e.uid ≡ q) (finmap.contains_key S.entities q) (first_entity L q) (first_keyed L q);
    holds = λ q. ap (option_map parts_of) (get_with_first S.entities L q)
        ∙ map_or (finmap.get S.entities q) (first_entity L q)
        ∙ (λ i. option_or (plain.holds q i) (sym (found_parts L q) i)) ∙ sym (get_added W (map input_of L) q);
  }

  -- If ancestors are computed, the result is the plain store of the input store after the addition.
  pub settled_plain : (row : EditRules) (N : StoreView) → N.partial ≡ S.partial
      → IsEnded row (is_affected S.entities (inserted_in S.entities L)) (with_first S.entities L) N.entities
      → OnTrue (computes row) (IsPlainStore (added W (map input_of L)) N)
  settled_plain row N same = ended_plain adding row N (same ∙ plain.partial)

  pub refused_plain : (row : EditRules) (affected : EntityUID → Bool) (t : TcError EntityUID)
      → IsEndError row affected (with_first S.entities L) t
      → OnTrue (computes row) (NamesCycle (added W (map input_of L)) t)
  refused_plain = names_cycle adding

pub same_bool : (x y : Bool) {R : Type 0} → (x ≡ true) ↔ R → (y ≡ true) ↔ R → x ≡ y
same_bool true y f g = sym (g.1 (f.0 refl))
same_bool false true f g = f.1 (g.0 refl)
same_bool false false f g = refl

-- Deep equality to the existing entity is agreement.
match_at : (W : InputStore) (M : List InputEntity) (e : EntityView) (o f : Option EntityView)
    → first M e.uid ≡ option_map parts_of f → HasNoIndirect e
    → IfSome f HasNoIndirect → IfSome f (λ x. x.uid ≡ e.uid) → IfSome o (λ h. h.uid ≡ e.uid)
    → IfSome o (λ h. (x : EntityUID) → (has_ancestor h x ≡ true) ↔ Reach (graph W) e.uid x)
    → IsDeepEqual (unwrap_or (option_or o f) e) e ↔ AgreesWith W M (option_map parts_of o) (input_of e)
match_at W M e (Some h) f is bare fbare fuid huid reach = (
  λ d. (
    d.attrs,
    d.tags,
    λ q. (
      λ t. (reach q).0 (d.ancestors q ∙ parents_are_ancestors e q t),
      λ r. sym (parents_alone e q (bare q)) ∙ sym (d.ancestors q) ∙ (reach q).1 r,
    ),
  ),
  λ k. record {
    uid = huid;
    attrs = k.0;
    tags = k.1;
    ancestors = λ q. same_bool (has_ancestor h q) (set.contains e.parents q) (reach q) (k.2 q)
        ∙ sym (parents_alone e q (bare q));
  },
)
match_at W M e None (Some x) is bare fbare fuid huid reach = (
  λ d. subst (λ o. AgreesWithFirst o (input_of e)) (sym is) (λ i. record {
    attrs = d.attrs i;
    tags = d.tags i;
    parents =
        set.same_set uid_order_total one_equal x.parents e.parents
        (λ q. sym (parents_alone x q (fbare q)) ∙ d.ancestors q ∙ parents_alone e q (bare q)) i;
  }),
  λ k. let same : parts_of x ≡ parts_of e = subst (λ o. AgreesWithFirst o (input_of e)) is k in
      record {
        uid = fuid;
        attrs = ap (λ (p : Parts). p.attrs) same;
        tags = ap (λ (p : Parts). p.tags) same;
        ancestors = λ q. parents_alone x q (fbare q) ∙ ap (λ (p : Parts). set.contains p.parents q) same
            ∙ sym (parents_alone e q (bare q));
      },
)
match_at W M e None None is bare fbare fuid huid reach = (
  λ d. subst (λ o. AgreesWithFirst o (input_of e)) (sym is) tt,
  λ k. deep_equality.itself e,
)

all_parts : {X : Type 0} (P : X → Type 0) (xs : List X) (y : X) (ys : List X) → AllByRecursion P (xs ++ y ∷ ys)
    → AllByRecursion P xs × P y
all_parts P [] y ys a = (tt, a.0)
all_parts P (x ∷ xs) y ys a = let p = all_parts P xs y ys a.1 in ((a.0, p.0), p.1)

module _ (W : InputStore) (S : StoreView) (L : List EntityView) (plain : IsPlainStore W S) (bare : HaveNoIndirect L) where
  -- In a plain store, deep equality and agreement are equivalent.
  agrees_iff : (e : EntityView) → HasNoIndirect e
      → MatchesPresent (finmap.get S.entities) L e ↔ Agrees W (map input_of L) (input_of e)
  agrees_iff e alone =
      subst (λ o. MatchesPresent (finmap.get S.entities) L e
      ↔ AgreesWith W (map input_of L) o (input_of e)) (plain.holds e.uid)
      (match_at W (map input_of L) e (finmap.get S.entities e.uid) (first_entity L e.uid) (found_parts L e.uid) alone
      (first_all HasNoIndirect L bare e.uid) (first_keyed L e.uid) (plain.keyed e.uid) (plain.reached e.uid))

  agree_given : (xs : List EntityView) → HaveNoIndirect xs → AllByRecursion (MatchesPresent (finmap.get S.entities) L) xs
      → AllByRecursion (Agrees W (map input_of L)) (map input_of xs)
  agree_given [] h a = tt
  agree_given (x ∷ xs) h a = ((agrees_iff x h.0).0 a.0, agree_given xs h.1 a.1)

  pub all_agree : AllMatch (finmap.get S.entities) L → AllAgree W (map input_of L)
  all_agree a = agree_given L bare a

  pub first_differs : (u : EntityUID) → FirstMismatch (finmap.get S.entities) L u → FirstDiffers W (map input_of L) u
  first_differs u m =
      let bares = all_parts HasNoIndirect m.before m.at m.after (subst HaveNoIndirect m.place bare) in
      record {
        before = map input_of m.before;
        at = input_of m.at;
        after = map input_of m.after;
        place = ap (map input_of) m.place ∙ map-append input_of m.before (m.at ∷ m.after);
        agree = agree_given m.before bares.0 m.agree;
        differs = λ k. m.differs ((agrees_iff m.at bares.1).1 k);
        uid = m.uid;
      }
