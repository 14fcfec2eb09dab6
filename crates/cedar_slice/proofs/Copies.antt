-- The list of the entities at some uids, and the entity map of a store of this list.
use Rattle.std.specs.Prelude.{◌≡◌, Bool, true, false, cond, ◌||◌, List, [], ◌∷◌, ◌++◌, Option, Some, None, map}
use Rattle.std.specs.Prelude.{filter_map}
use Rattle.std.proofs.Common.{ap, sym, refl, subst, ◌∙◌}
use Rattle.std.specs.List.{AllByRecursion, cons_option}
use Rattle.std.specs.Option.{IfSome, option_or, unwrap_or}
use Rattle.std.specs.Set.{is_member}
use Rattle.std.specs.FinMap as finmap
use Rattle.cedar_ids.specs.UidOf.{same_uid, uid_order}
use Rattle.cedar_ids.specs.laws.UidOfLaws.{same_uid_decides, uid_order_total}
use Rattle.cedar_ids.specs.declared.entity.EntityUID.{EntityUID}
use Rattle.cedar_uid_sets.specs.laws.Sets.{one_equal, same_tests}
use Rattle.cedar_entity.specs.View.{EntityView, IsDeepEqual}
use Rattle.cedar_entity.specs.laws.Views.{deep_equality}
use Rattle.cedar_entity_maps.specs.Plain.{EntityMap, no_entities}
use Rattle.cedar_entities.specs.Present.{first_entity, present, with_first, AllMatch, MatchesPresent}
use Rattle.cedar_entity_maps.specs.Plain.{keyed}
use Rattle.cedar_entities.specs.Present.{FirstMismatch}
use Rattle.cedar_entity_maps.specs.laws.InputStores.{get_joined}

absent_more : {X : Type 0} (b r : Bool) (x : Option X) → (b ≡ true → x ≡ None) → cond r x None ≡ cond (b || r) x None
absent_more true true x h = refl
absent_more true false x h = sym (h refl)
absent_more false r x h = refl

found_more : {X : Type 0} (b r : Bool) (x : Option X) (e : X) → (b ≡ true → x ≡ Some e)
    → cond b (Some e) (cond r x None) ≡ cond (b || r) x None
found_more true r x e h = sym (h refl)
found_more false r x e h = refl

-- Holds if the entity at each of the uids, if there is one, has that uid.
abbrev pub AreKeyed : EntityMap → List EntityUID → Type 0
AreKeyed D ks = AllByRecursion (λ k. IfSome (finmap.get D k) (λ e. e.uid ≡ k)) ks

module _ (D : EntityMap) where
  first_more : (o : Option EntityView) (k q : EntityUID) (rest : List EntityView) (r : Bool) → finmap.get D k ≡ o
      → IfSome o (λ e. e.uid ≡ k)
      → first_entity rest q ≡ cond r (finmap.get D q) None
      → first_entity (cons_option o rest) q ≡ cond (same_uid q k || r) (finmap.get D q) None
  first_more None k q rest r is u h =
      h ∙ absent_more (same_uid q k) r (finmap.get D q) (λ t. ap (finmap.get D) ((same_uid_decides q k).0 t) ∙ is)
  first_more (Some e) k q rest r is u h =
      ap (λ f. cond (f q e.uid) (Some e) (first_entity rest q)) same_tests
      ∙ ap (λ x. cond (same_uid q x) (Some e) (first_entity rest q)) u
      ∙ ap (cond (same_uid q k) (Some e)) h
      ∙ found_more (same_uid q k) r (finmap.get D q) e (λ t. ap (finmap.get D) ((same_uid_decides q k).0 t) ∙ is)

  -- The first entity of the list with a uid is the entity at that uid, if the uid is among the given ones.
  pub first_held : (ks : List EntityUID) → AreKeyed D ks → (q : EntityUID)
      → first_entity (filter_map (finmap.get D) ks) q ≡ cond (is_member same_uid ks q) (finmap.get D q) None
  first_held [] a q = refl
  first_held (k ∷ ks) a q =
      first_more (finmap.get D k) k q (filter_map (finmap.get D) ks) (is_member same_uid ks q) refl a.0
      (first_held ks a.1 q)

  held_more : (o : Option EntityView) (k : EntityUID) (rest : List EntityView) → finmap.get D k ≡ o
      → IfSome o (λ e. e.uid ≡ k)
      → AllByRecursion (λ e. finmap.get D e.uid ≡ Some e) rest
      → AllByRecursion (λ e. finmap.get D e.uid ≡ Some e) (cons_option o rest)
  held_more None k rest is u a = a
  held_more (Some e) k rest is u a = (ap (finmap.get D) u ∙ is, a)

  -- Each entity of the list is the entity at its uid.
  pub all_held : (ks : List EntityUID) → AreKeyed D ks
      → AllByRecursion (λ e. finmap.get D e.uid ≡ Some e) (filter_map (finmap.get D) ks)
  all_held [] a = tt
  all_held (k ∷ ks) a = held_more (finmap.get D k) k (filter_map (finmap.get D) ks) refl a.0 (all_held ks a.1)

  found_itself : (m : Bool) (e : EntityView) → unwrap_or (option_or None (cond m (Some e) None)) e ≡ e
  found_itself true e = refl
  found_itself false e = refl

  present_itself : (ks : List EntityUID) → AreKeyed D ks → (e : EntityView) → finmap.get D e.uid ≡ Some e
      → present (finmap.get no_entities) (filter_map (finmap.get D) ks) e ≡ e
  present_itself ks k e is =
      ap (λ o. unwrap_or (option_or o (first_entity (filter_map (finmap.get D) ks) e.uid)) e)
      (finmap.get-empty uid_order e.uid)
      ∙ ap (λ o. unwrap_or (option_or None o) e) (first_held ks k e.uid
      ∙ ap (λ o. cond (is_member same_uid ks e.uid) o None) is)
      ∙ found_itself (is_member same_uid ks e.uid) e

  matches : (ks : List EntityUID) → AreKeyed D ks → (L : List EntityView)
      → AllByRecursion (λ e. finmap.get D e.uid ≡ Some e) L
      → AllByRecursion (MatchesPresent (finmap.get no_entities) (filter_map (finmap.get D) ks)) L
  matches ks k [] a = tt
  matches ks k (e ∷ L) a =
      (subst (λ x. IsDeepEqual x e) (sym (present_itself ks k e a.0)) (deep_equality.itself e), matches ks k L a.1)

  -- Each entity of the list equals the existing one with its uid.
  pub all_match : (ks : List EntityUID) → AreKeyed D ks
      → AllMatch (finmap.get no_entities) (filter_map (finmap.get D) ks)
  all_match ks k = matches ks k (filter_map (finmap.get D) ks) (all_held ks k)

  all_at : {X : Type 0} (P : X → Type 0) (xs : List X) (y : X) (ys : List X) → AllByRecursion P (xs ++ y ∷ ys) → P y
  all_at P [] y ys a = a.0
  all_at P (x ∷ xs) y ys a = all_at P xs y ys a.1

  -- No entity of the list is a differing duplicate.
  pub none_differs : (ks : List EntityUID) → AreKeyed D ks → (u : EntityUID)
      → FirstMismatch (finmap.get no_entities) (filter_map (finmap.get D) ks) u → ⊥
  none_differs ks k u m =
      m.differs (all_at (MatchesPresent (finmap.get no_entities) (filter_map (finmap.get D) ks)) m.before m.at m.after
      (subst (AllByRecursion (MatchesPresent (finmap.get no_entities) (filter_map (finmap.get D) ks))) m.place
      (all_match ks k)))

  -- A store of the list contains the entities at the uids.
  pub store_of : (ks : List EntityUID) → AreKeyed D ks → (test : EntityUID → Bool)
      → ((q : EntityUID) → is_member same_uid ks q ≡ test q)
      → with_first no_entities (filter_map (finmap.get D) ks) ≡ finmap.retain_keys D test
  store_of ks k test same =
      finmap.same_map uid_order_total one_equal (with_first no_entities (filter_map (finmap.get D) ks))
      (finmap.retain_keys D test) (λ q.
      get_joined (finmap.entries no_entities) (map keyed (filter_map (finmap.get D) ks)) q
      ∙ ap (λ o. option_or o (first_entity (filter_map (finmap.get D) ks) q)) (sym (finmap.get-entries no_entities q)
      ∙ finmap.get-empty uid_order q)
      ∙ first_held ks k q
      ∙ ap (λ b. cond b (finmap.get D q) None) (same q)
      ∙ sym (finmap.get-retain_keys D test q (λ x t. ap test (sym (one_equal q x t)))))
