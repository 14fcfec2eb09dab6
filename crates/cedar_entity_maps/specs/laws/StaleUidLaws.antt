-- The stale ancestors of all edited uids, which are read before the first change.
use Rattle.std.specs.Prelude.{◌≡◌, ◌+◌, Bool, true, false, not, ◌&&◌, ◌||◌, List, [], ◌∷◌, Option, Some, None, length}
use Rattle.std.proofs.Common.{ap, arith, sym, refl, ◌∙◌, get_or, take_all}
use Rattle.std.proofs.lemmas.Bool.{and_parts, and_from}
use Rattle.std.specs.Option.{option_map, is_some}
use Rattle.std.specs.List.{AllByRecursion, list_any}
use Rattle.std.specs.Set.{is_member}
use Rattle.std.specs.FinSet as set
use Rattle.std.specs.FinMap as finmap
use Rattle.cedar_ids.specs.UidOf.{same_uid, uid_order}
use Rattle.cedar_ids.specs.laws.UidOfLaws.{uid_order_total, same_uid_decides}
use Rattle.cedar_ids.specs.declared.entity.EntityUID.{EntityUID}
use Rattle.cedar_uid_sets.specs.UidSets.{UidValues}
use Rattle.cedar_uid_sets.specs.laws.Sets.{one_equal}
use Rattle.cedar_entity.specs.laws.UidSets.{kept_in}
use Rattle.cedar_entity.specs.View.{EntityView, has_ancestor}
use Rattle.cedar_entity_maps.specs.Edits.{is_stale, without_stale}
use Rattle.cedar_entity_maps.specs.Modes.{ancestry, is_ancestor_in}
use Rattle.cedar_entity_maps.specs.Plain.{EntityMap}
use Rattle.cedar_entity_maps.specs.declared.affected.StaleAncestors.{StaleAncestors}
use Rattle.cedar_entity_maps.specs.laws.Edits.{stripped}
use Rattle.cedar_entity_maps.specs.laws.StaleUids.{IsLossOf, is_lost, is_stripped, loses, loses_uid, takes, IsWhole}
use Rattle.cedar_entity_maps.specs.laws.StaleUids.{left_by}
use Rattle.cedar_entity_maps.specs.laws.Lists.{any_more}
use Rattle.cedar_entity_maps.specs.laws.AnyOf.{and_turn, any_alike, any_found, any_member, none_retained, same_bool}

pub and_off : (b : Bool) → (b && false) ≡ false
and_off true = refl
and_off false = refl

pub or_off : (b : Bool) → b ≡ (b || false)
or_off true = refl
or_off false = refl

pub and_on : (c : Bool) → (c && true) ≡ c
and_on true = refl
and_on false = refl

pub and_both : (a b : Bool) → (a && b) ≡ (b && a)
and_both true true = refl
and_both true false = refl
and_both false true = refl
and_both false false = refl

pub within : (b l : Bool) → (l ≡ true → b ≡ true) → (b && l) ≡ l
within b true h = ap (λ c. c && true) (h refl)
within b false h = and_off b

-- An entity with stale ancestors is affected.
pub stripped_touched : (m l : Bool) → ((m || l) && (not m && l)) ≡ (not m && l)
stripped_touched true l = refl
stripped_touched false true = refl
stripped_touched false false = refl

pub touched_alone : (m l : Bool) → ((m || l) && not m) ≡ (not m && l)
touched_alone true l = refl
touched_alone false true = refl
touched_alone false false = refl

-- A test on the uids that are ancestors, as a test on all uids.
pub any_hit : (h T : EntityUID → Bool) (hits A : List EntityUID)
    → ((q : EntityUID) → is_member same_uid hits q ≡ (is_member same_uid A q && h q))
    → list_any T hits ≡ list_any (λ u. h u && T u) A
any_hit h T hits A is = same_bool (list_any T hits) (list_any (λ u. h u && T u) A)
    (λ t. let r = any_found T hits t in let p = and_parts (is_member same_uid A r.0) (h r.0) (sym (is r.0) ∙ r.1) in
    any_member (λ u. h u && T u) A r.0 p.0 (and_from (h r.0) (T r.0) p.1 r.2))
    (λ t. let r = any_found (λ u. h u && T u) A t in let p = and_parts (h r.0) (T r.0) r.2 in
    any_member T hits r.0 (is r.0 ∙ and_from (is_member same_uid A r.0) (h r.0) r.1 p.0) p.1)

-- The test of a list with one element.
pub any_one : (T : EntityUID → Bool) (xs : List EntityUID) (k : EntityUID) → length xs ≡ 1 → k ≡ get_or xs 0 k
    → T k ≡ list_any T xs
any_one T xs k one is = sym (any_more T xs 0 k (omega arith) is) ∙ ap (list_any T) (take_all (0 + 1) xs (omega arith))

-- A difference keeps the members that are not in the other set.
pub difference_kept : (s t : UidValues) → set.difference s t ≡ set.retain s (λ p. not (set.contains t p))
difference_kept s t =
    set.same_set uid_order_total one_equal _ _
    (λ x. set.contains-difference uid_order_total s t x ∙ sym (kept_in s (set.contains t) x))

absorb : (x g : Bool) → (g || (x && g)) ≡ g
absorb true true = refl
absorb true false = refl
absorb false true = refl
absorb false false = refl

-- An entity that is not one of the uids has stale ancestors if it has one of them as an ancestor.
pub loses_below : (D : EntityMap) (A : List EntityUID) (R : List StaleAncestors)
    → ((q : EntityUID) → loses R q ≡ is_stripped A q (ancestry D q)) → (q : EntityUID) → is_member same_uid A q ≡ false
    → loses R q ≡ list_any (ancestry D q) A
loses_below D A R who q out = who q ∙ ap (λ m. not m && list_any (ancestry D q) A) out

module _ (D : EntityMap) (A : List EntityUID) (R : List StaleAncestors)
    (who : (q : EntityUID) → loses R q ≡ is_stripped A q (ancestry D q))
    (lost : AllByRecursion (IsLossOf (finmap.get D) A) R) (q : EntityUID) where
  by_loss : (e : EntityView) → finmap.get D q ≡ Some e → (w : EntityUID) (S : List StaleAncestors)
      → AllByRecursion (IsLossOf (finmap.get D) A) S → loses_uid S q w ≡ (loses S q && list_any (is_stale D e w) A)
  by_loss e is w [] h = refl
  by_loss e is w (a ∷ S) h = at (same_uid q a.uid) refl (by_loss e is w S h.1)
    where
      here : same_uid q a.uid ≡ true → is_lost a.lost w ≡ list_any (is_stale D e w) A
      here t =
          h.0 w ∙ ap (λ x. list_any (λ u. is_ancestor_in (finmap.get D x) u && takes (finmap.get D) u w) A)
          (sym ((same_uid_decides q a.uid).0 t))
          ∙ ap (λ o. list_any (λ u. is_ancestor_in o u && takes (finmap.get D) u w) A) is
          ∙ ap (λ f. list_any f A)
          (λ i u. and_turn (has_ancestor e u) (is_some (finmap.get D u)) (same_uid u w || ancestry D u w) i)

      at : (b : Bool) → same_uid q a.uid ≡ b → loses_uid S q w ≡ (loses S q && list_any (is_stale D e w) A)
          → ((b && is_lost a.lost w) || loses_uid S q w) ≡ ((b || loses S q) && list_any (is_stale D e w) A)
      at true t more =
          ap (λ c. c || loses_uid S q w) (here t) ∙ ap (λ c. list_any (is_stale D e w) A || c) more
          ∙ absorb (loses S q) (list_any (is_stale D e w) A)
      at false t more = more

  -- The listed ancestors of an entity are its stale ancestors.
  pub goes_by_loss : is_member same_uid A q ≡ false → (e : EntityView) → finmap.get D q ≡ Some e → (w : EntityUID)
      → loses_uid R q w ≡ list_any (is_stale D e w) A
  goes_by_loss out e is w =
      by_loss e is w R lost
      ∙ ap (λ b. b && list_any (is_stale D e w) A)
      (loses_below D A R who q out ∙ ap (λ o. list_any (is_ancestor_in o) A) is)
      ∙ within (list_any (has_ancestor e) A) (list_any (is_stale D e w) A)
      (λ t. let r = any_found (is_stale D e w) A t in
      any_member (has_ancestor e) A r.0 r.1 (and_parts (is_some (finmap.get D r.0)) (has_ancestor e r.0)
      (and_parts (is_some (finmap.get D r.0) && has_ancestor e r.0)
      (same_uid r.0 w || ancestry D r.0 w) r.2).0).1)

-- If all indirect ancestors of each listed entity are stale, every uid is.
pub loses_whole : (R : List StaleAncestors) → AllByRecursion IsWhole R → (q w : EntityUID) → loses_uid R q w ≡ loses R q
loses_whole [] h q w = refl
loses_whole (a ∷ R) h q w =
    (λ i. (same_uid q a.uid && is_lost (h.0 i) w) || loses_whole R h.1 q w i)
    ∙ ap (λ b. b || loses R q) (and_on (same_uid q a.uid))

-- An entity that is not listed does not change.
pub still : (R : List StaleAncestors) → AllByRecursion IsWhole R → (removed : UidValues) (q : EntityUID) → loses R q ≡ false
    → (o : Option EntityView) → option_map (left_by removed R q) o ≡ o
still R whole removed q t None = refl
still R whole removed q t (Some e) = λ i. Some (record e {
  parents = none_retained e.parents (λ p. loses R q && set.contains removed p)
      (λ y _. ap (λ b. b && set.contains removed y) t) i;
  indirect = none_retained e.indirect (loses_uid R q) (λ w _. loses_whole R whole q w ∙ t) i;
})
