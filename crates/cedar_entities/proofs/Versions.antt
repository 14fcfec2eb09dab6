-- The entity map after one more entity.
use Rattle.std.specs.Prelude.{◌≡◌, Bool, true, false, cond, List, [], ◌∷◌, ◌++◌, Option, Some, None, map}
use Rattle.std.proofs.Common.{ap, sym, refl, subst, ◌∙◌}
use Rattle.std.specs.Option.{option_or, option_map, unwrap_or, IfSome}
use Rattle.std.specs.FinMap as finmap
use Rattle.std.specs.List.{AllByRecursion}
use Rattle.std.specs.Ordering.{eq_by_cmp}
use Rattle.cedar_ids.specs.UidOf.{same_uid, uid_order}
use Rattle.cedar_ids.specs.laws.UidOfLaws.{same_uid_decides, same_uid_equiv}
use Rattle.cedar_ids.specs.declared.entity.EntityUID.{EntityUID}
use Rattle.cedar_uid_sets.specs.laws.Sets.{same_tests}
use Rattle.cedar_entity.specs.View.{EntityView, IsDeepEqual}
use Rattle.cedar_entity.specs.laws.Views.{deep_equality}
use Rattle.std.specs.HashMap.{HashMap, get}
use Rattle.cedar_entity.specs.declared.node.SharedEntity.{SharedEntity}
use Rattle.cedar_entity_maps.specs.laws.EntityMap.{entity_at, shared, UidsMatch}
use Rattle.cedar_entities.specs.Present.{first_entity, MatchesPresent, FirstMismatch, present}
use Rattle.cedar_entity_maps.specs.Plain.{keyed}
use Rattle.cedar_entity_maps.specs.laws.Edits.{last_entity}
use Rattle.cedar_entity_maps.specs.EditErrors.{MatchError}
use Rattle.cedar_entity_maps.specs.laws.EditErrors.{refusal_cases}
use Rattle.cedar_entity_maps.specs.laws.InputStores.{found_or}
use Rattle.cedar_entity.specs.declared.err.EntitiesError.{EntitiesError}
use Rattle.cedar_entity_maps.specs.InputStore.{reversed}
use Rattle.cedar_entity_maps.specs.laws.Lists.{map_append_one}

abbrev pub Fn : Type 0
Fn = EntityUID → Option EntityView

abbrev pub just : EntityView → EntityUID → Option EntityView
just x q = cond (same_uid x.uid q) (Some x) None

pub or_none : {X : Type 0} (o : Option X) → o ≡ option_or o None
or_none None = refl
or_none (Some x) = refl

or_from_none : {X : Type 0} (o p : Option X) → o ≡ None → p ≡ option_or o p
or_from_none o p e = ap (λ r. option_or r p) (sym e)

grows : (f : Fn) (x : EntityView) → f x.uid ≡ None → (q : EntityUID) (b : Bool) → same_uid x.uid q ≡ b
    → cond b (Some x) (f q) ≡ option_or (f q) (cond b (Some x) None)
grows f x e q true s = or_from_none (f q) (Some x) (ap f (sym ((same_uid_decides x.uid q).0 s)) ∙ e)
grows f x e q false s = or_none (f q)

pub grows_held : (f : Fn) (x : EntityView) → f x.uid ≡ None → (q : EntityUID)
    → cond (same_uid x.uid q) (Some x) (f q) ≡ option_or (f q) (just x q)
grows_held f x e q = grows f x e q (same_uid x.uid q) refl

pub map_cond : {X Y : Type 0} (g : X → Y) (b : Bool) (x : X) (o : Option X)
    → option_map g (cond b (Some x) o) ≡ cond b (Some (g x)) (option_map g o)
map_cond g true x o = refl
map_cond g false x o = refl

-- ---- insert_if_new
pub put : {S : Type 0} (m n : HashMap EntityUID SharedEntity S) (k : EntityUID) (v : SharedEntity) (x : EntityView)
    → k ≡ x.uid → shared v ≡ x → get same_uid m k ≡ None
    → ((q : EntityUID) → get same_uid n q ≡ cond (same_uid k q) (Some v) (get same_uid m q)) → (q : EntityUID)
    → entity_at n q ≡ option_or (entity_at m q) (just x q)
put m n k v x key value absent step q =
    ap (option_map shared) (step q)
    ∙ map_cond shared (same_uid k q) v (get same_uid m q)
    ∙ ap (λ y. cond (same_uid k q) (Some y) (entity_at m q)) value
    ∙ ap (λ u. cond (same_uid u q) (Some x) (entity_at m q)) key
    ∙ grows_held (entity_at m) x (ap (entity_at m) (sym key) ∙ ap (option_map shared) absent) q

pub insert_key_copy : {S : Type 0} (m : HashMap EntityUID SharedEntity S) (k : EntityUID) (v : SharedEntity) (q : EntityUID)
    (b : Bool) → same_uid k q ≡ b → k ≡ (shared v).uid → UidsMatch m
    → IfSome (cond b (Some v) (get same_uid m q)) (λ w. same_uid q (shared w).uid ≡ true)
insert_key_copy m k v q true s key h = (same_uid_decides q (shared v).uid).1 (sym ((same_uid_decides k q).0 s) ∙ key)
insert_key_copy m k v q false s key h = h q

pub put_keys : {S : Type 0} (m n : HashMap EntityUID SharedEntity S) (k : EntityUID) (v : SharedEntity)
    → k ≡ (shared v).uid
    → ((q : EntityUID) → get same_uid n q ≡ cond (same_uid k q) (Some v) (get same_uid m q)) → UidsMatch m → UidsMatch n
put_keys m n k v key step h q =
    subst (λ o. IfSome o (λ w. same_uid q (shared w).uid ≡ true)) (sym (step q))
    (insert_key_copy m k v q (same_uid k q) refl key h)

-- ---- insert_each
or_assoc : {X : Type 0} (a b c : Option X) → option_or (option_or a b) c ≡ option_or a (option_or b c)
or_assoc None b c = refl
or_assoc (Some x) b c = refl

pub first_entity-append : (xs ys : List EntityView) (q : EntityUID)
    → first_entity (xs ++ ys) q ≡ option_or (first_entity xs q) (first_entity ys q)
first_entity-append [] ys q = refl
first_entity-append (x ∷ xs) ys q = ap (cond (eq_by_cmp uid_order q x.uid) (Some x)) (first_entity-append xs ys q)
    ∙ found_or (eq_by_cmp uid_order q x.uid) x (first_entity xs q) (first_entity ys q)

pub first_one : (x : EntityView) (q : EntityUID) → first_entity (x ∷ []) q ≡ just x q
first_one x q = ap (λ f. cond (f q x.uid) (Some x) None) same_tests
    ∙ ap (λ b. cond b (Some x) None) (sym (same_uid_equiv.symm x.uid q))

first_here : (x : EntityView) (xs : List EntityView) → first_entity (x ∷ xs) x.uid ≡ Some x
first_here x xs = ap (λ f. cond (f x.uid x.uid) (Some x) (first_entity xs x.uid)) same_tests
    ∙ ap (λ b. cond b (Some x) (first_entity xs x.uid)) (same_uid_equiv.refl x.uid)

unwrapped : (o : Option EntityView) (e : EntityView) → unwrap_or (option_or o (Some e)) e ≡ unwrap_or o e
unwrapped None e = refl
unwrapped (Some x) e = refl

-- The existing entity is the one in the map by now, or the entity itself.
pub present_now : (f : Fn) (done : List EntityView) (e : EntityView) (rest items : List EntityView)
    → items ≡ done ++ e ∷ rest → present f items e ≡ unwrap_or (option_or (f e.uid) (first_entity done e.uid)) e
present_now f done e rest items is =
    ap (λ l. present f l e) is
    ∙ ap (λ o. unwrap_or (option_or (f e.uid) o) e) (first_entity-append done (e ∷ rest) e.uid
    ∙ ap (option_or (first_entity done e.uid)) (first_here e rest))
    ∙ ap (λ o. unwrap_or o e) (sym (or_assoc (f e.uid) (first_entity done e.uid) (Some e)))
    ∙ unwrapped (option_or (f e.uid) (first_entity done e.uid)) e

agrees_if : (o : Option EntityView) (e : EntityView) → IfSome o (λ h. IsDeepEqual h e) → IsDeepEqual (unwrap_or o e) e
agrees_if None e h = deep_equality.itself e
agrees_if (Some x) e h = h

pub agrees_now : (f now : Fn) (done : List EntityView) (e : EntityView) (rest items : List EntityView)
    → items ≡ done ++ e ∷ rest → ((q : EntityUID) → now q ≡ option_or (f q) (first_entity done q))
    → IfSome (now e.uid) (λ h. IsDeepEqual h e) → MatchesPresent f items e
agrees_now f now done e rest items is so h =
    subst (λ v. IsDeepEqual v e) (sym (present_now f done e rest items is))
    (agrees_if _ e (subst (λ o. IfSome o (λ v. IsDeepEqual v e)) (so e.uid) h))

pub differs_now : (f now : Fn) (done : List EntityView) (e h : EntityView) (rest items : List EntityView)
    → items ≡ done ++ e ∷ rest → ((q : EntityUID) → now q ≡ option_or (f q) (first_entity done q)) → now e.uid ≡ Some h
    → (IsDeepEqual h e → ⊥) → MatchesPresent f items e → ⊥
differs_now f now done e h rest items is so at apart d =
    apart (subst (λ v. IsDeepEqual v e) (present_now f done e rest items is
    ∙ ap (λ o. unwrap_or o e) (sym (so e.uid) ∙ at)) d)

pub held_push : (f now new : Fn) (done : List EntityView) (e : EntityView)
    → ((q : EntityUID) → now q ≡ option_or (f q) (first_entity done q))
    → ((q : EntityUID) → new q ≡ option_or (now q) (just e q)) → (q : EntityUID)
    → new q ≡ option_or (f q) (first_entity (done ++ e ∷ []) q)
held_push f now new done e so step q =
    step q ∙ ap (λ o. option_or o (just e q)) (so q) ∙ or_assoc (f q) (first_entity done q) (just e q)
    ∙ ap (λ o. option_or (f q) (option_or (first_entity done q) o)) (sym (first_one e q))
    ∙ ap (option_or (f q)) (sym (first_entity-append done (e ∷ []) q))

pub weaker_refusal : (f now : Fn) (done : List EntityView) (e : EntityView) (rest items : List EntityView)
    → items ≡ done ++ e ∷ rest → ((q : EntityUID) → now q ≡ option_or (f q) (first_entity done q))
    → AllByRecursion (MatchesPresent f items) done
    → (r : EntitiesError)
    → MatchError r (λ u. (u ≡ e.uid) × (h : EntityView) × (now e.uid ≡ Some h) × (IsDeepEqual h e → ⊥)) (λ _. ⊥)
    → MatchError r (FirstMismatch f items) (λ _. ⊥)
weaker_refusal f now done e rest items is so agree r h =
    refusal_cases (λ u. (u ≡ e.uid) × (k : EntityView) × (now e.uid ≡ Some k) × (IsDeepEqual k e → ⊥)) (λ _. ⊥)
    (λ s. MatchError s (FirstMismatch f items) (λ _. ⊥))
    (λ u k. record {
      before = done;
      at = e;
      after = rest;
      place = is;
      agree = agree;
      differs = differs_now f now done e k.1 rest items is so k.2 k.3;
      uid = sym k.0;
    }) (λ t n. absurd n) tt r h

-- ---- overwrite
pub overwrite : {S : Type 0} (m n : HashMap EntityUID SharedEntity S) (k : EntityUID) (v : SharedEntity) (x : EntityView)
    → k ≡ x.uid → shared v ≡ x
    → ((q : EntityUID) → get same_uid n q ≡ cond (same_uid k q) (Some v) (get same_uid m q)) → (q : EntityUID)
    → entity_at n q ≡ option_or (just x q) (entity_at m q)
overwrite m n k v x key value step q =
    ap (option_map shared) (step q) ∙ map_cond shared (same_uid k q) v (get same_uid m q)
    ∙ found_or (same_uid k q) (shared v) None (entity_at m q)
    ∙ (λ i. option_or (cond (same_uid (key i) q) (Some (value i)) None) (entity_at m q))

reversed_push : {X : Type 0} (xs : List X) (x : X) → reversed (xs ++ x ∷ []) ≡ x ∷ reversed xs
reversed_push [] x = refl
reversed_push (y ∷ xs) x = ap (λ l. l ++ y ∷ []) (reversed_push xs x)

pub last_push : (done : List EntityView) (e : EntityView) (q : EntityUID)
    → last_entity (done ++ e ∷ []) q ≡ option_or (just e q) (last_entity done q)
last_push done e q =
    ap (finmap.find uid_order q) (ap reversed (map_append_one keyed done e) ∙ reversed_push (map keyed done) (keyed e))
    ∙ ap (λ f. cond (f q e.uid) (Some e) (last_entity done q)) same_tests
    ∙ ap (λ b. cond b (Some e) (last_entity done q)) (sym (same_uid_equiv.symm e.uid q))
    ∙ found_or (same_uid e.uid q) e None (last_entity done q)

pub over_push : (f now new : Fn) (done : List EntityView) (e : EntityView)
    → ((q : EntityUID) → now q ≡ option_or (last_entity done q) (f q))
    → ((q : EntityUID) → new q ≡ option_or (just e q) (now q)) → (q : EntityUID)
    → new q ≡ option_or (last_entity (done ++ e ∷ []) q) (f q)
over_push f now new done e so step q =
    step q ∙ ap (option_or (just e q)) (so q) ∙ sym (or_assoc (just e q) (last_entity done q) (f q))
    ∙ ap (λ o. option_or o (f q)) (sym (last_push done e q))
