-- The steps of an edit of the map, as an edit of the entity map.
use Rattle.std.specs.Prelude.{◌≡◌, Bool, true, false, cond, not, ◌&&◌, ◌||◌, List, [], Option, Some, None, filter}
use Rattle.std.proofs.Common.{ap, sym, refl, subst, inl, inr, ◌∙◌}
use Rattle.std.proofs.lemmas.Bool.{false≢true, or_cases, or_left, or_parts, or_right}
use Rattle.std.specs.Option.{option_map, option_or, is_some}
use Rattle.std.specs.HashMap.{HashMap}
use Rattle.std.specs.HashSet.{contains}
use Rattle.std.specs.List.{AllByRecursion, list_any}
use Rattle.std.specs.Set.{is_member}
use Rattle.std.specs.FinSet as set
use Rattle.std.specs.FinMap as finmap
use Rattle.cedar_ids.specs.UidOf.{same_uid, uid_order}
use Rattle.cedar_ids.specs.laws.UidOfLaws.{uid_order_total}
use Rattle.cedar_ids.specs.declared.entity.EntityUID.{EntityUID}
use Rattle.cedar_uid_sets.specs.UidSets.{UidValues}
use Rattle.cedar_uid_sets.specs.laws.Sets.{contains_listed, one_equal}
use Rattle.cedar_entity.specs.laws.UidSets.{kept_in}
use Rattle.cedar_entity.specs.View.{EntityView}
use Rattle.cedar_entity.specs.declared.node.SharedEntity.{SharedEntity}
use Rattle.cedar_entity_maps.specs.Edits.{is_stale, is_removed_by, without_removed_parents, overwrite, removed_all, uids_of}
use Rattle.cedar_entity_maps.specs.laws.Edits.{edited_at, last_entity, remains, stripped, IsEdit}
use Rattle.cedar_entity_maps.specs.Modes.{ancestry, is_ancestor_in}
use Rattle.cedar_entity_maps.specs.Plain.{EntityMap}
use Rattle.cedar_entities.specs.Present.{with_first}
use Rattle.cedar_entity_maps.specs.Affected.{inserted_in, is_affected, removed_from}
use Rattle.cedar_entities.specs.declared.edits.Reading.{Reading}
use Rattle.cedar_entity_maps.specs.declared.affected.StaleAncestors.{StaleAncestors}
use Rattle.cedar_entity_maps.specs.laws.EntityMap.{entity_at, held_map}
use Rattle.cedar_entity_maps.specs.laws.Indexes.{is_parent_at}
use Rattle.cedar_entity_maps.specs.laws.StaleUids.{left_by, AreLossesOf, IsLossOf, is_stripped, loses, loses_uid}
use Rattle.cedar_entities.specs.laws.Readings.{IsReadingOf}
use Rattle.cedar_entities.proofs.Adding.{added_same}
use Rattle.cedar_entity_maps.specs.laws.Seen.{stored, get_seen}
use Rattle.cedar_entity_maps.specs.laws.AnyOf.{any_alike, any_member, is_none}
use Rattle.cedar_entity_maps.specs.laws.StaleUidLaws.{and_both, and_off, goes_by_loss, loses_below, within}
use Rattle.cedar_entities.proofs.Overwriting.{last_some, over_edit}
use Rattle.cedar_entities.proofs.Removing.{out_edit, removed_members}

-- The entity map after the steps of an edit.
abbrev pub IsWritten : UidValues → List EntityView → List StaleAncestors → (was now : EntityUID → Option EntityView) → Type 0
IsWritten removed L R was now = (q : EntityUID)
    → now q ≡ option_or (last_entity L q) (cond (set.contains removed q) None (option_map (left_by removed R q) (was q)))

covered : (o x y : Option EntityView) → is_some o ≡ true → option_or o x ≡ option_or o y
covered None x y h = absurd (false≢true h)
covered (Some e) x y h = refl

module _ (D : EntityMap) (removed : UidValues) (L : List EntityView) (K : List EntityUID) (R : List StaleAncestors)
    (all : (q : EntityUID) → is_member same_uid K q ≡ (is_member same_uid (uids_of L) q || set.contains removed q))
    (who : (q : EntityUID) → loses R q ≡ is_stripped K q (ancestry D q)) (q : EntityUID) where
  -- The entity at q after the steps, where o is the one before.
  abbrev pub written : Option EntityView → Option EntityView
  written o = option_or (last_entity L q) (cond (set.contains removed q) None o)

  -- At the uids of an edit nothing remains of the old entities.
  pub at_applied : is_member same_uid K q ≡ true → (x y : Option EntityView) → written x ≡ written y
  at_applied t x y =
      elim (or_cases (is_member same_uid (uids_of L) q) (set.contains removed q) (sym (all q) ∙ t)) [
        | inl m ↦ covered (last_entity L q) _ _ (last_some L q ∙ m)
        | inr g ↦
            ap (λ d. option_or (last_entity L q) (cond d None x)) g
            ∙ sym (ap (λ d. option_or (last_entity L q) (cond d None y)) g)
      ]

  -- At other uids nothing is inserted or removed.
  pub at_others : is_member same_uid K q ≡ false → (x : Option EntityView) → written x ≡ x
  at_others out x =
      let p = or_parts (is_member same_uid (uids_of L) q) (set.contains removed q) (sym (all q) ∙ out) in
      λ i. option_or (is_none (last_entity L q) (last_some L q ∙ p.0) i) (cond (p.1 i) None x)

  -- A removed parent is an ancestor.
  parents_gone : is_member same_uid K q ≡ false → (e : EntityView) → finmap.get D q ≡ Some e
      → set.retain e.parents (λ p. not (loses R q && set.contains removed p))
      ≡ set.retain e.parents (λ p. not (set.contains removed p))
  parents_gone out e is = set.same_set uid_order_total one_equal _ _ (λ x.
      kept_in e.parents (λ p. loses R q && set.contains removed p) x
      ∙ at x (set.contains e.parents x) refl
      ∙ sym (kept_in e.parents (set.contains removed) x))
    where
      at : (x : EntityUID) (b : Bool) → set.contains e.parents x ≡ b
          → (b && not (loses R q && set.contains removed x)) ≡ (b && not (set.contains removed x))
      at x false t = refl
      at x true t = ap not (within (loses R q) (set.contains removed x) (λ g.
          loses_below D K R who q out
          ∙ any_member (ancestry D q) K x (all x ∙ or_right (is_member same_uid (uids_of L) x) (set.contains removed x) g)
          (ap (λ o. is_ancestor_in o x) is ∙ or_left (set.contains e.parents x) (set.contains e.indirect x) t)))

  -- At other uids the parents that are not removed remain.
  pub parents_left : is_member same_uid K q ≡ false → (indirect : EntityUID → Bool) (x : EntityUID)
      → (o : Option EntityView) → finmap.get D q ≡ o
      → is_parent_at (option_map (stripped (λ p. loses R q && set.contains removed p) indirect) o) x
      ≡ (not (set.contains removed x) && is_parent_at o x)
  parents_left out indirect x None is = sym (and_off (not (set.contains removed x)))
  parents_left out indirect x (Some e) is =
      ap (λ s. set.contains s x) (parents_gone out e is) ∙ kept_in e.parents (set.contains removed) x
      ∙ and_both (set.contains e.parents x) (not (set.contains removed x))

module _ (D : EntityMap) (removed : UidValues) (L : List EntityView) (K : List EntityUID) (R : List StaleAncestors)
    (all : (q : EntityUID) → is_member same_uid K q ≡ (is_member same_uid (uids_of L) q || set.contains removed q))
    (who : (q : EntityUID) → loses R q ≡ is_stripped K q (ancestry D q))
    (lost : AllByRecursion (IsLossOf (finmap.get D) K) R) (q : EntityUID) where
  left_at : is_member same_uid K q ≡ false → (o : Option EntityView) → finmap.get D q ≡ o
      → option_map (left_by removed R q) o ≡ option_map (remains D (set.contains removed) K) o
  left_at out None is = refl
  left_at out (Some e) is = λ i. Some (record e {
    parents = parents_gone D removed L K R all who q out e is i;
    indirect = set.retain e.indirect (λ w. not (goes_by_loss D K R who lost q out e is w i));
  })

  written_at : (b : Bool) → is_member same_uid K q ≡ b
      → option_or (last_entity L q) (cond (set.contains removed q) None (option_map (left_by removed R q) (finmap.get D q)))
      ≡ edited_at D (set.contains removed) K (last_entity L) q
  written_at false out = ap (λ o. option_or (last_entity L q) (cond (set.contains removed q) None o))
      (left_at out (finmap.get D q) refl)
  written_at true t = at_applied D removed L K R all who q t (option_map (left_by removed R q) (finmap.get D q))
      (option_map (remains D (set.contains removed) K) (finmap.get D q))

-- The effect of the steps of an edit on the entities.
pub seen_written : {S : Type 0} (m n : HashMap EntityUID SharedEntity S) (removed : UidValues) (L : List EntityView)
    (R : List StaleAncestors)
    → IsWritten removed L R (entity_at m) (entity_at n)
    → IsWritten removed L R (finmap.get (held_map m)) (finmap.get (held_map n))
seen_written m n removed L R is q =
    get_seen n q ∙ is q ∙ ap (λ f. option_or (last_entity L q) (cond (set.contains removed q) None
    (option_map (left_by removed R q) (f q)))) (stored m (held_map m) refl)

-- The effect of the steps of an edit on the parents.
pub parents_written : {S : Type 0} (m n : HashMap EntityUID SharedEntity S) (removed : UidValues) (L : List EntityView)
    (K : List EntityUID) (R : List StaleAncestors)
    → ((q : EntityUID) → is_member same_uid K q ≡ (is_member same_uid (uids_of L) q || set.contains removed q))
    → ((q : EntityUID) → loses R q ≡ is_stripped K q (ancestry (held_map m) q))
    → IsWritten removed L R (entity_at m) (entity_at n) → (p q : EntityUID)
    → is_member same_uid K q ≡ false → is_parent_at (finmap.get (held_map n) q) p
    ≡ (not (set.contains removed p) && is_parent_at (finmap.get (held_map m) q) p)
parents_written m n removed L K R all who is p q out =
    let D = held_map m in
    ap (λ o. is_parent_at o p) (seen_written m n removed L R is q
    ∙ at_others D removed L K R all who q out
    (option_map (left_by removed R q) (finmap.get D q)))
    ∙ parents_left D removed L K R all who q out (loses_uid R q) p (finmap.get D q) refl

-- The steps of an edit result in an edit.
pub written_edit : {S : Type 0} (m n : HashMap EntityUID SharedEntity S) (removed : UidValues) (L : List EntityView)
    (K : List EntityUID) (R : List StaleAncestors)
    → ((q : EntityUID) → is_member same_uid K q ≡ (is_member same_uid (uids_of L) q || set.contains removed q))
    → ((q : EntityUID) → loses R q ≡ is_stripped K q (ancestry (held_map m) q))
    → AllByRecursion (IsLossOf (finmap.get (held_map m)) K) R
    → IsWritten removed L R (entity_at m) (entity_at n)
    → IsEdit (held_map m) (held_map n) (set.contains removed) (last_entity L) K
written_edit m n removed L K R all who lost is = record {
  applied = λ q. all q ∙ ap (λ b. b || set.contains removed q) (sym (last_some L q));
  made = λ q. seen_written m n removed L R is q
      ∙ written_at (held_map m) removed L K R all who lost q (is_member same_uid K q) refl;
}

-- An edit has only one result.
pub edit_same : (D N M : EntityMap) (removed : EntityUID → Bool) (put : EntityUID → Option EntityView) (K A : List EntityUID)
    → IsEdit D N removed put K → IsEdit D M removed put A → N ≡ M
edit_same D N M removed put K A x y = finmap.same_map uid_order_total one_equal N M (λ q.
    x.made q ∙ (λ i. option_or (put q) (cond (removed q) None (option_map (λ e. without_removed_parents removed (record e {
      indirect = set.retain e.indirect
          (λ w. not (any_alike (is_stale D e w) K A (λ u. x.applied u ∙ sym (y.applied u)) i));
    })) (finmap.get D q)))) ∙ sym (y.made q))

-- The facts read from the map are the facts of the entity map.
pub reading_of : {S T H : Type 0} (m : HashMap EntityUID SharedEntity S) (us ks : List EntityUID) (r : Reading T H)
    (recompute_all : Bool) → r.uids.items ≡ ks → ((q : EntityUID) → is_member same_uid ks q ≡ is_member same_uid us q)
    → ((q : EntityUID) → contains same_uid r.affected q ≡ is_affected (held_map m) ks q)
    → ((q : EntityUID) → loses r.stale.items q ≡ is_stripped ks q (is_ancestor_in (entity_at m q)))
    → AreLossesOf recompute_all (entity_at m) ks r.stale.items → IsReadingOf recompute_all (held_map m) us r
reading_of m us ks r recompute_all is same affected who lost =
    let D = held_map m in
    let f = stored m D refl in
    record {
      same = λ q. ap (λ l. is_member same_uid l q) is ∙ same q;
      affected = λ q. affected q ∙ ap (λ l. is_affected D l q) (sym is);
      who = λ q. who q ∙ ap (λ g. is_stripped ks q (is_ancestor_in (g q))) f
          ∙ ap (λ l. is_stripped l q (ancestry D q)) (sym is);
      lost = subst (λ l. AreLossesOf recompute_all (finmap.get D) l r.stale.items) (sym is)
          (subst (λ g. AreLossesOf recompute_all g ks r.stale.items) f lost);
    }

pub gone_all : {S : Type 0} (l : HashMap EntityUID SharedEntity S) (D : EntityMap) (U : List EntityUID) → held_map l ≡ D
    → filter (λ u. is_some (entity_at l u)) U ≡ removed_from D U
gone_all l D U is = ap (λ g. filter (λ u. is_some (g u)) U) (stored l D is)

-- The listed uids that are in the map are the removed uids.
pub gone_leaves : {S : Type 0} (l : HashMap EntityUID SharedEntity S) (D : EntityMap) (U listed : List EntityUID)
    (removed : UidValues) → held_map l ≡ D
    → listed ≡ filter (λ u. is_some (entity_at l u)) U → removed ≡ set.from_list listed → (q : EntityUID)
    → set.contains removed q ≡ is_removed_by D U q
gone_leaves l D U listed removed is all made q =
    ap (λ s. set.contains s q) made ∙ contains_listed listed q
    ∙ ap (λ us. is_member same_uid us q) (all ∙ gone_all l D U is) ∙ removed_members D U q

-- The affected entities depend only on the set of uids.
pub known_touched : (D : EntityMap) (A B : List EntityUID) (f : EntityUID → Bool)
    → ((q : EntityUID) → is_member same_uid A q ≡ is_member same_uid B q) → ((q : EntityUID) → f q ≡ is_affected D A q)
    → f ≡ is_affected D B
known_touched D A B f same known = λ i q. (
    known q
    ∙ ap (λ b. b || list_any (ancestry D q) A) (same q)
    ∙ ap (λ b. is_member same_uid B q || b) (any_alike (ancestry D q) A B same)) i

-- The affected entities of an addition are the same before and after the insertion.
pub added_alike : {S : Type 0} (m : HashMap EntityUID SharedEntity S) (D : EntityMap) (L : List EntityView)
    (A : List EntityUID) → held_map m ≡ with_first D L
    → ((q : EntityUID) → is_member same_uid A q ≡ is_member same_uid (inserted_in D L) q) → (q : EntityUID)
    → is_affected (held_map m) A q ≡ is_affected D A q
added_alike m D L A put same q = at (is_member same_uid A q) refl
  where
    at : (b : Bool) → is_member same_uid A q ≡ b → is_affected (held_map m) A q ≡ is_affected D A q
    at true t = or_left (is_member same_uid A q) (list_any (ancestry (held_map m) q) A) t
        ∙ sym (or_left (is_member same_uid A q) (list_any (ancestry D q) A) t)
    at false t = ap (λ o. is_member same_uid A q || list_any (is_ancestor_in o) A)
        (ap (λ (M : EntityMap). finmap.get M q) put ∙ added_same D L q (sym (same q) ∙ t))

-- Overwritings and removals are edits.
pub over_made : (D : EntityMap) (L : List EntityView) (removed : UidValues) → removed ≡ set.empty
    → IsEdit D (overwrite D L) (set.contains removed) (last_entity L) (uids_of L)
over_made D L removed is = subst (λ f. IsEdit D (overwrite D L) f (last_entity L) (uids_of L))
    (λ i q. sym (ap (λ s. set.contains s q) is ∙ set.contains-empty uid_order q) i) (over_edit D L)

pub out_made : (D : EntityMap) (U : List EntityUID) (removed : UidValues) (L : List EntityView)
    → ((q : EntityUID) → set.contains removed q ≡ is_removed_by D U q) → L ≡ []
    → IsEdit D (removed_all D U) (set.contains removed) (last_entity L) (removed_from D U)
out_made D U removed L all none = subst
    (λ K. IsEdit D (removed_all D U) (set.contains removed) (last_entity K) (removed_from D U)) (sym none)
    (subst (λ f. IsEdit D (removed_all D U) f (λ _. None) (removed_from D U)) (λ i q. sym (all q) i) (out_edit D U))
