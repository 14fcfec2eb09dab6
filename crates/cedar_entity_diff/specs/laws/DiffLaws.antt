-- The laws of differences: two stores have only one difference. The difference of a store and itself is empty, and only
-- equal stores have an empty difference. The difference of two stores leads from the first to the second.
use Rattle.std.specs.Prelude.{◌≡◌, Bool, true, false, cond, not, ◌&&◌, ◌||◌, List, [], ◌∷◌, ◌++◌, map, Option, Some, None}
use Rattle.std.specs.Prelude.{is_some}
use Rattle.std.proofs.Common.{ap, sym, refl, ◌∙◌}
use Rattle.std.proofs.lemmas.Bool.{false≢true, and_parts, and_from}
use Rattle.std.proofs.lemmas.Slice.Eq.{slice_eq-Decides}
use Rattle.std.specs.Bool.{Decides}
use Rattle.std.specs.Cmp.Lexicographic.{pointwise}
use Rattle.std.specs.Option.{IfSome, option_map, option_or, unwrap_or}
use Rattle.std.specs.Ordering.{eq_by_cmp}
use Rattle.std.specs.FinSet as set
use Rattle.std.specs.FinMap as finmap
use Rattle.cedar_ids.specs.UidOf.{uid_order}
use Rattle.cedar_ids.specs.laws.UidOfLaws.{same_uid_decides, uid_order_total}
use Rattle.cedar_ids.specs.declared.entity.EntityUID.{EntityUID}
use Rattle.cedar_uid_sets.specs.UidSets.{UidValues, same_uids}
use Rattle.cedar_uid_sets.specs.laws.Sets.{one_equal, same_members, same_tests, same_uids_decides}
use Rattle.cedar_entity.specs.Fields.{Fields}
use Rattle.cedar_entity.specs.View.{EntityView, overlap}
use Rattle.cedar_entity.specs.laws.Fields.{field_decides, field_eq}
use Rattle.cedar_entity_maps.specs.Plain.{EntityMap, IsKeyed, StoreView, keyed}
use Rattle.cedar_entity_maps.specs.laws.InputStores.{find-append}
use Rattle.cedar_entity_diff.specs.Diffs.{AncestryView, ChangeView, DiffView, IsDiff, ancestors, ancestry_from}
use Rattle.cedar_entity_diff.specs.Diffs.{after_change, ancestry_uid, applied, applied_entities, changed_from, changed_uid}
use Rattle.cedar_entity_diff.specs.Diffs.{entry_with_ancestry, mode_from, no_diff, only_first, same_content, uid_of, value_at}
use Rattle.cedar_entity_diff.specs.Diffs.{with_ancestry}
use Rattle.cedar_entity_diff.specs.laws.OneList.{one_list}

-- Holds if two entities have the same attributes, tags and parents, and the same parents that are indirect ancestors.
pub record HaveSameContent (a b : EntityView) : Type 0 where
  pub attrs : a.attrs ≡ b.attrs
  pub tags : a.tags ≡ b.tags
  pub parents : a.parents ≡ b.parents
  pub overlap : overlap a ≡ overlap b

fields_decide : (f g : Fields) → Decides (pointwise field_eq f g) (f ≡ g)
fields_decide f g = slice_eq-Decides field_decides f g _ refl

-- `same_content` decides whether two entities have the same content.
pub same_content_decides : (a b : EntityView) → Decides (same_content a b) (HaveSameContent a b)
same_content_decides a b =
    let fields = pointwise field_eq a.attrs b.attrs && pointwise field_eq a.tags b.tags in
    let sets = same_uids a.parents b.parents && same_uids (overlap a) (overlap b) in (
      λ h. let p = and_parts fields sets h in
          let f = and_parts (pointwise field_eq a.attrs b.attrs) (pointwise field_eq a.tags b.tags) p.0 in
          let s = and_parts (same_uids a.parents b.parents) (same_uids (overlap a) (overlap b)) p.1 in record {
            attrs = (fields_decide a.attrs b.attrs).0 f.0;
            tags = (fields_decide a.tags b.tags).0 f.1;
            parents = (same_uids_decides a.parents b.parents).0 s.0;
            overlap = (same_uids_decides (overlap a) (overlap b)).0 s.1;
          },
      λ c. and_from fields sets
          (and_from (pointwise field_eq a.attrs b.attrs) (pointwise field_eq a.tags b.tags)
          ((fields_decide a.attrs b.attrs).1 c.attrs) ((fields_decide a.tags b.tags).1 c.tags))
          (and_from (same_uids a.parents b.parents) (same_uids (overlap a) (overlap b))
          ((same_uids_decides a.parents b.parents).1 c.parents)
          ((same_uids_decides (overlap a) (overlap b)).1 c.overlap)),
    )

-- An entity has its own content.
pub same_content_itself : (a : EntityView) → same_content a a ≡ true
same_content_itself a = (same_content_decides a a).1 (record { attrs = refl; tags = refl; parents = refl; overlap = refl })

-- Equal entities make no difference.
pub only_itself : (o : Option EntityView) → only_first o o ≡ None
only_itself None = refl
only_itself (Some a) = refl

pub changed_itself : (o : Option EntityView) → changed_from o o ≡ None
changed_itself None = refl
changed_itself (Some a) = ap (λ b. cond b None (Some (record { before = a; after = a }))) (same_content_itself a)

pub ancestry_itself : (o : Option EntityView) → ancestry_from o o ≡ None
ancestry_itself None = refl
ancestry_itself (Some a) = ap (λ b. cond b None (Some (record {
  uid = a.uid;
  gained = set.difference (ancestors a) (ancestors a);
  lost = set.difference (ancestors a) (ancestors a);
}))) ((same_uids_decides (ancestors a) (ancestors a)).1 refl)

pub mode_itself : (b : Bool) → mode_from b b ≡ None
mode_itself true = refl
mode_itself false = refl

none_listed : {X : Type 0} (key : X → EntityUID) (L : List X) → ((q : EntityUID) → value_at key L q ≡ None) → L ≡ []
none_listed key [] h = refl
none_listed key (x ∷ L) h =
    absurd (false≢true (sym (ap is_some (h (key x)))
    ∙ ap (λ t. is_some (cond (t (key x) (key x)) (Some x) (value_at key L (key x)))) same_tests
    ∙ ap (λ b. is_some (cond b (Some x) (value_at key L (key x)))) ((same_uid_decides (key x) (key x)).1 refl)))

-- Two stores have only one difference.
pub one_diff : (S T : StoreView) (d e : DiffView) → IsDiff S T d → IsDiff S T e → d ≡ e
one_diff S T d e a b =
    let removed = one_list uid_of _ d.removed e.removed a.removed b.removed in
    let added = one_list uid_of _ d.added e.added a.added b.added in
    let changed = one_list changed_uid _ d.changed e.changed a.changed b.changed in
    let ancestry = one_list ancestry_uid _ d.ancestry e.ancestry a.ancestry b.ancestry in
    let partial = a.partial ∙ sym b.partial in λ i. record {
      removed = removed i;
      added = added i;
      changed = changed i;
      ancestry = ancestry i;
      partial = partial i;
    }

-- The difference of a store and itself is empty.
pub diff_itself : (S : StoreView) (d : DiffView) → IsDiff S S d → d ≡ no_diff
diff_itself S d is =
    let get = finmap.get S.entities in
    let removed = none_listed uid_of d.removed (λ q. is.removed.at q ∙ only_itself (get q)) in
    let added = none_listed uid_of d.added (λ q. is.added.at q ∙ only_itself (get q)) in
    let changed = none_listed changed_uid d.changed (λ q. is.changed.at q ∙ changed_itself (get q)) in
    let ancestry = none_listed ancestry_uid d.ancestry (λ q. is.ancestry.at q ∙ ancestry_itself (get q)) in
    let partial = is.partial ∙ mode_itself S.partial in λ i. record {
      removed = removed i;
      added = added i;
      changed = changed i;
      ancestry = ancestry i;
      partial = partial i;
    }

through : (p i j : Bool) → (p && i) ≡ (p && j)
    → ((i || ((p || j) && not (p || i))) && not ((p || i) && not (p || j))) ≡ j
through true true j h = h
through true false j h = h
through false true true h = refl
through false true false h = refl
through false false true h = refl
through false false false h = refl

-- The indirect ancestors of an entity are those of another with the same content, with the ancestors gained and without
-- those lost.
indirect_through : (a b : EntityView) → HaveSameContent a b
    → set.difference (set.union a.indirect (set.difference (ancestors b) (ancestors a)))
    (set.difference (ancestors a) (ancestors b)) ≡ b.indirect
indirect_through a b c = same_members _ _ (λ q.
    let gained = set.difference (ancestors b) (ancestors a) in
    let lost = set.difference (ancestors a) (ancestors b) in
    let p = set.contains a.parents q in
    let i = set.contains a.indirect q in
    let j = set.contains b.indirect q in
    let in_a : set.contains (ancestors a) q ≡ (p || i) = set.contains-union uid_order_total a.parents a.indirect q in
    let in_b : set.contains (ancestors b) q ≡ (p || j) =
    set.contains-union uid_order_total b.parents b.indirect q
    ∙ ap (λ (s : UidValues). set.contains s q || j) (sym c.parents) in
    let both : (p && i) ≡ (p && j) =
    sym (set.contains-intersection uid_order_total a.parents a.indirect q)
    ∙ ap (λ (s : UidValues). set.contains s q) c.overlap
    ∙ set.contains-intersection uid_order_total b.parents b.indirect q
    ∙ ap (λ (s : UidValues). set.contains s q && j) (sym c.parents) in
    set.contains-difference uid_order_total (set.union a.indirect gained) lost q
    ∙ ap (λ x. x && not (set.contains lost q)) (set.contains-union uid_order_total a.indirect gained q
    ∙ ap (λ x. i || x) (set.contains-difference uid_order_total (ancestors b) (ancestors a) q
    ∙ ap (λ x. x && not (set.contains (ancestors a) q)) in_b ∙ ap (λ x. (p || j) && not x) in_a))
    ∙ ap (λ x. (i || ((p || j) && not (p || i))) && not x)
    (set.contains-difference uid_order_total (ancestors a) (ancestors b) q
    ∙ ap (λ x. x && not (set.contains (ancestors b) q)) in_a ∙ ap (λ x. (p || i) && not x) in_b)
    ∙ through p i j both)

-- An entity with its own ancestors gains and loses none.
same_indirect : (p i j : Bool) → (p && i) ≡ (p && j) → (p || i) ≡ (p || j) → i ≡ j
same_indirect true i j h k = h
same_indirect false i j h k = k

indirect_kept : (a b : EntityView) → HaveSameContent a b → ancestors a ≡ ancestors b → a.indirect ≡ b.indirect
indirect_kept a b c same = same_members a.indirect b.indirect (λ q. same_indirect (set.contains a.parents q)
    (set.contains a.indirect q) (set.contains b.indirect q)
    (sym (set.contains-intersection uid_order_total a.parents a.indirect q)
    ∙ ap (λ (s : UidValues). set.contains s q) c.overlap
    ∙ set.contains-intersection uid_order_total b.parents b.indirect q
    ∙ ap (λ (s : UidValues). set.contains s q && set.contains b.indirect q) (sym c.parents))
    (sym (set.contains-union uid_order_total a.parents a.indirect q)
    ∙ ap (λ (s : UidValues). set.contains s q) same
    ∙ set.contains-union uid_order_total b.parents b.indirect q
    ∙ ap (λ (s : UidValues). set.contains s q || set.contains b.indirect q) (sym c.parents)))

same_entity : (a b : EntityView) → a.uid ≡ b.uid → HaveSameContent a b → a.indirect ≡ b.indirect → a ≡ b
same_entity a b u c h = λ i. record {
  uid = u i;
  attrs = c.attrs i;
  tags = c.tags i;
  parents = c.parents i;
  indirect = h i;
}

-- Two entities with the same uid, the same content and the same ancestors are equal.
pub equal_entities : (a b : EntityView) → a.uid ≡ b.uid → HaveSameContent a b → ancestors a ≡ ancestors b → a ≡ b
equal_entities a b u c same = same_entity a b u c (indirect_kept a b c same)

ancestry_leads : (a b : EntityView) → a.uid ≡ b.uid → HaveSameContent a b → (t : Bool)
    → same_uids (ancestors a) (ancestors b) ≡ t → with_ancestry (cond t None (Some (record {
      uid = b.uid;
      gained = set.difference (ancestors b) (ancestors a);
      lost = set.difference (ancestors a) (ancestors b);
    }))) a ≡ b
ancestry_leads a b u c true is = equal_entities a b u c ((same_uids_decides (ancestors a) (ancestors b)).0 is)
ancestry_leads a b u c false is =
    same_entity (record a {
      indirect = set.difference (set.union a.indirect (set.difference (ancestors b) (ancestors a)))
          (set.difference (ancestors a) (ancestors b));
    }) b u (record { attrs = c.attrs; tags = c.tags; parents = c.parents; overlap = kept }) (indirect_through a b c)
  where
    kept : set.intersection a.parents (set.difference (set.union a.indirect (set.difference (ancestors b) (ancestors a)))
        (set.difference (ancestors a) (ancestors b))) ≡ overlap b
    kept =
        ap (λ s. set.intersection a.parents s) (indirect_through a b c)
        ∙ ap (λ s. set.intersection s b.indirect) c.parents

-- The entity at a uid after a difference: the added one, the changed one, or the one that is not removed with its new
-- ancestors.
abbrev after_at : Option EntityView → Option ChangeView → Option EntityView → Option AncestryView → Option EntityView
    → Option EntityView
after_at added changed removed ancestry o = option_or added (option_or (option_map after_change changed)
    (option_map (with_ancestry ancestry) (cond (not (is_some removed)) o None)))

changed_leads : (a b : EntityView) → a.uid ≡ b.uid → (t : Bool) → same_content a b ≡ t
    → option_or (option_map after_change (cond t None (Some (record { before = a; after = b }))))
    (Some (with_ancestry (ancestry_from (Some a) (Some b)) a)) ≡ Some b
changed_leads a b u false is = refl
changed_leads a b u true is =
    ap Some (ancestry_leads a b u ((same_content_decides a b).0 is) (same_uids (ancestors a) (ancestors b)) refl)

leads : (q : EntityUID) (o n : Option EntityView) → IfSome o (λ e. e.uid ≡ q) → IfSome n (λ e. e.uid ≡ q)
    → after_at (only_first n o) (changed_from o n) (only_first o n) (ancestry_from o n) o ≡ n
leads q None None j k = refl
leads q None (Some b) j k = refl
leads q (Some a) None j k = refl
leads q (Some a) (Some b) j k = changed_leads a b (j ∙ sym k) (same_content a b) refl

found_mapped : {X Y : Type 0} (f : X → Y) (b : Bool) (x : X) (o : Option X)
    → cond b (Some (f x)) (option_map f o) ≡ option_map f (cond b (Some x) o)
found_mapped f true x o = refl
found_mapped f false x o = refl

changed_found : (L : List ChangeView) (q : EntityUID)
    → finmap.find uid_order q (map (λ c. keyed (after_change c)) L) ≡ option_map after_change (value_at changed_uid L q)
changed_found [] q = refl
changed_found (c ∷ L) q =
    ap (cond (eq_by_cmp uid_order q c.after.uid) (Some c.after)) (changed_found L q)
    ∙ found_mapped after_change (eq_by_cmp uid_order q c.after.uid) c (value_at changed_uid L q)

entry_found : (d : DiffView) (q u : EntityUID) (e : EntityView) (rest : Option EntityView) (b : Bool)
    → eq_by_cmp uid_order q u ≡ b
    → cond b (Some (with_ancestry (value_at ancestry_uid d.ancestry u) e))
    (option_map (with_ancestry (value_at ancestry_uid d.ancestry q)) rest)
    ≡ option_map (with_ancestry (value_at ancestry_uid d.ancestry q)) (cond b (Some e) rest)
entry_found d q u e rest false is = refl
entry_found d q u e rest true is =
    let same : u ≡ q = sym ((same_uid_decides q u).0 (ap (λ t. t q u) (sym same_tests) ∙ is)) in
    ap (λ v. Some (with_ancestry (value_at ancestry_uid d.ancestry v) e)) same

kept_found : (d : DiffView) (es : List (EntityUID × EntityView)) (q : EntityUID)
    → finmap.find uid_order q (map (entry_with_ancestry d) es)
    ≡ option_map (with_ancestry (value_at ancestry_uid d.ancestry q)) (finmap.find uid_order q es)
kept_found d [] q = refl
kept_found d (e ∷ es) q =
    ap (cond (eq_by_cmp uid_order q e.0) (Some (with_ancestry (value_at ancestry_uid d.ancestry e.0) e.1)))
    (kept_found d es q)
    ∙ entry_found d q e.0 e.1 (finmap.find uid_order q es) (eq_by_cmp uid_order q e.0) refl

-- The entity at a uid after a difference is applied.
pub get_applied : (d : DiffView) (D : EntityMap) (q : EntityUID)
    → finmap.get (applied_entities d D) q
    ≡ after_at (value_at uid_of d.added q) (value_at changed_uid d.changed q) (value_at uid_of d.removed q)
    (value_at ancestry_uid d.ancestry q) (finmap.get D q)
get_applied d D q =
    let stays : EntityUID → Bool = λ u. not (is_some (value_at uid_of d.removed u)) in
    let left = finmap.retain_keys D stays in
    let changed = map (λ c. keyed (after_change c)) d.changed in
    let others = map (entry_with_ancestry d) (finmap.entries left) in
    finmap.get-from_entries uid_order_total (map keyed d.added ++ (changed ++ others)) q
    ∙ find-append (map keyed d.added) (changed ++ others) q
    ∙ ap (option_or (value_at uid_of d.added q)) (find-append changed others q
    ∙ ap (λ o. option_or o (finmap.find uid_order q others)) (changed_found d.changed q)
    ∙ ap (option_or (option_map after_change (value_at changed_uid d.changed q)))
    (kept_found d (finmap.entries left) q
    ∙ ap (option_map (with_ancestry (value_at ancestry_uid d.ancestry q))) (sym (finmap.get-entries left q)
    ∙ finmap.get-retain_keys D stays q (λ x t. ap stays (sym (one_equal q x t))))))

module _ (S T : StoreView) (keyed_S : IsKeyed S.entities) (keyed_T : IsKeyed T.entities) (d : DiffView)
    (is : IsDiff S T d) where
  -- The difference of two stores, applied to the first, leads to the entities of the second.
  pub applied_leads : (applied d S).entities ≡ T.entities
  applied_leads =
      finmap.same_map uid_order_total one_equal (applied d S).entities T.entities (λ q.
      let o = finmap.get S.entities q in
      let n = finmap.get T.entities q in
      get_applied d S.entities q
      ∙ (λ i. after_at (is.added.at q i) (is.changed.at q i) (is.removed.at q i) (is.ancestry.at q i) o)
      ∙ leads q o n (keyed_S q) (keyed_T q))

  mode_leads : (a b : Bool) → unwrap_or (mode_from a b) a ≡ b
  mode_leads true true = refl
  mode_leads true false = refl
  mode_leads false true = refl
  mode_leads false false = refl

  -- It also leads to the mode of the second.
  pub mode_applied : (applied d S).partial ≡ T.partial
  mode_applied = ap (λ o. unwrap_or o S.partial) is.partial ∙ mode_leads S.partial T.partial

unchanged : (o : Option EntityView) → after_at None None None None o ≡ o
unchanged None = refl
unchanged (Some e) = refl

-- Two stores whose difference is empty have equal entities, and the same mode.
pub equal_if_empty : (S T : StoreView) → IsKeyed S.entities → IsKeyed T.entities → IsDiff S T no_diff
    → (S.entities ≡ T.entities) × (S.partial ≡ T.partial)
equal_if_empty S T keyed_S keyed_T is = (
  sym (finmap.same_map uid_order_total one_equal (applied_entities no_diff S.entities) S.entities (λ q.
      get_applied no_diff S.entities q ∙ unchanged (finmap.get S.entities q)))
      ∙ applied_leads S T keyed_S keyed_T no_diff is,
  mode_applied S T keyed_S keyed_T no_diff is,
)
