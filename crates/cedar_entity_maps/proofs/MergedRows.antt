-- The repair of entities by the ancestors of their ancestors.
use Rattle.std.specs.Prelude.{◌≡◌, ◌⊎◌, Bool, true, false, ◌||◌, ◌&&◌, List, [], ◌∷◌, Option, Some, None, Result, Ok, Err}
use Rattle.std.specs.Prelude.{is_some, ⊤, ◌++◌, cond, map, not}
use Rattle.std.proofs.Common.{ℕ, ◌<◌, ◌+◌, ap, get_or, length, take, sym, refl, inl, inr, ◌∙◌, Bor}
use Rattle.std.proofs.lemmas.List.{map-append}
use Rattle.std.proofs.Math.Bool.{and-true, or-false}
use Rattle.std.proofs.lemmas.List.Folds.{list_any-append, list_any_at}
use Rattle.std.specs.List.{AllZip, list_any}
use Rattle.std.specs.Option.{IfSome, option_map}
use Rattle.std.specs.HashMap.{HashMap}
use Rattle.std.specs.Set.{is_member}
use Rattle.std.proofs.lemmas.Bool.{false_from_ne_true, false≢true}
use Rattle.std.specs.FinSet as set
use Rattle.std.specs.FinMap as finmap
use Rattle.cedar_graph.specs.Graph.{AddsOnlyReached, HasNoCycleAt, IsTrusted, KeepsEdges, Reach, ReachesSame}
use Rattle.cedar_graph.specs.laws.Reaches.{reach_between, reach_edge, reach_over_reach, reach_trans}
use Rattle.cedar_graph.specs.declared.err.TcError.{TcError}
use Rattle.cedar_graph.specs.declared.err.TcError.TheVariants as tc
use Rattle.cedar_ids.specs.UidOf.{same_uid, uid_order}
use Rattle.cedar_ids.specs.laws.UidOfLaws.{same_uid_decides, same_uid_equiv, uid_order_total}
use Rattle.cedar_ids.specs.declared.entity.EntityUID.{EntityUID}
use Rattle.cedar_uid_sets.specs.UidSets.{UidValues}
use Rattle.cedar_uid_sets.specs.laws.Sets.{one_equal}
use Rattle.cedar_entity.specs.Listing.{ListsAncestors}
use Rattle.cedar_entity.specs.View.{EntityView, has_ancestor, overlap, rest, unchanged_parts}
use Rattle.cedar_entity.specs.laws.Views.{ancestors_listed}
use Rattle.cedar_entity.specs.declared.node.SharedEntity.{SharedEntity}
use Rattle.cedar_entity.specs.declared.err.EntitiesError.{EntitiesError}
use Rattle.cedar_entity_maps.specs.ClosureFaults.{IsClosureFault}
use Rattle.cedar_entity_maps.specs.EditErrors.{NamesOneOf}
use Rattle.cedar_entity_maps.specs.Modes.{Also, OneOf, ReportsCycle, ReportsUnsound, ancestry, is_ancestor_in}
use Rattle.cedar_entity_maps.specs.Modes.{IsSound, computes}
use Rattle.std.specs.Bool.{OnTrue}
use Rattle.cedar_entity_maps.specs.Plain.{EntityMap}
use Rattle.cedar_entity_maps.specs.Affected.{IsAcyclicAt, IsEnded, IsEndError, IsRepairOf, SomeRepairIf}
use Rattle.cedar_entity_maps.specs.laws.EditErrors.{refusal_cases, refused_for}
use Rattle.cedar_entity_maps.specs.laws.Ends.{Ends, repairing}
use Rattle.cedar_entity_maps.specs.laws.EntityMap.{entity_at, held_map}
use Rattle.cedar_entity_maps.specs.laws.Merging.{AddsRow, IsMerged, IsRest, IsRowAbove, IsRowApart, IsRowOf}
use Rattle.cedar_entity_maps.specs.laws.Merging.{is_left}
use Rattle.cedar_entity_maps.specs.laws.WidenedRows.{widened, widened_leads, widened_overlap}
use Rattle.cedar_entity_maps.specs.laws.Seen.{get_seen, seen_as, stored}
use Rattle.cedar_entity_maps.specs.laws.AnyOf.{any_found, any_member}
use Rattle.cedar_entity_maps.specs.laws.Lists.{member_more, member_push}

or_true : (x : Bool) → (x || true) ≡ true
or_true true = refl
or_true false = refl

leads_some : (o : Option EntityView) (b : EntityUID) → is_ancestor_in o b ≡ true → is_some o ≡ true
leads_some None b h = h
leads_some (Some e) b h = refl

first_some : (N : EntityMap) (a b : EntityUID) → Reach (ancestry N) a b → is_some (finmap.get N a) ≡ true
first_some N a b ([], p) = leads_some (finmap.get N a) b p
first_some N a b (x ∷ xs, p) = leads_some (finmap.get N a) x p.0

-- A test of one more uid.
pub any_next : (f : EntityUID → Bool) (done : List (Bor EntityUID)) (x : Bor EntityUID)
    → list_any f (map (λ y. y.now) (done ++ x ∷ [])) ≡ (list_any f (map (λ y. y.now) done) || f x.now)
any_next f done x =
    ap (list_any f) (map-append (λ y. y.now) done (x ∷ [])) ∙ list_any-append f (map (λ y. y.now) done) (x.now ∷ [])
    ∙ ap (λ b. list_any f (map (λ y. y.now) done) || b) (or-false (f x.now))

-- A row that was collected from a list of the ancestors.
pub row_collected : (at : EntityUID → Option EntityView) (e : EntityView) (us : List EntityUID) (row : UidValues)
    → ListsAncestors e us
    → ((q : EntityUID) → set.contains row q ≡ list_any (λ y. is_ancestor_in (at y) q) us) → IsRowOf at e row
row_collected at e us row lists is = record {
  above = λ q h.
      let r = any_found (λ y. is_ancestor_in (at y) q) us (sym (is q) ∙ h) in
      (r.0, sym (ancestors_listed e us lists r.0) ∙ r.1, r.2);
  all = λ y q has leads. is q ∙ any_member (λ x. is_ancestor_in (at x) q) us y (ancestors_listed e us lists y ∙ has) leads;
}

-- The empty row changes no entity.
widened_none : (row : UidValues) (e : EntityView) → row ≡ set.empty → widened row e ≡ e
widened_none row e none = λ i. record e {
  indirect = set.same_set uid_order_total one_equal (set.union e.indirect (set.difference row e.parents)) e.indirect (λ q.
      set.contains-union uid_order_total e.indirect (set.difference row e.parents) q
      ∙ ap (λ b. set.contains e.indirect q || b) (set.contains-difference uid_order_total row e.parents q
      ∙ ap (λ b. b && not (set.contains e.parents q)) (ap (λ r. set.contains r q) none ∙ set.contains-empty uid_order q))
      ∙ or-false (set.contains e.indirect q)) i;
}

pub same_none : (row : UidValues) (b : Bool) (o : Option EntityView) → row ≡ set.empty
    → o ≡ cond b (option_map (widened row) o) o
same_none row true None none = refl
same_none row true (Some e) none = ap Some (sym (widened_none row e none))
same_none row false o none = refl

-- The map after a row was added to the entity at a key.
module _ {S : Type 0} (m n : HashMap EntityUID SharedEntity S) (key : EntityUID) (row : UidValues)
    (is : (q : EntityUID) → entity_at n q
    ≡ cond (same_uid key q) (option_map (widened row) (entity_at m q)) (entity_at m q)) where
  made : (q : EntityUID) → finmap.get (held_map n) q
      ≡ cond (same_uid key q) (option_map (widened row) (finmap.get (held_map m) q)) (finmap.get (held_map m) q)
  made q = get_seen n q ∙ is q
      ∙ ap (λ f. cond (same_uid key q) (option_map (widened row) (f q)) (f q)) (stored m (held_map m) refl)

  parts_at : (b : Bool) (o : Option EntityView)
      → option_map unchanged_parts (cond b (option_map (widened row) o) o) ≡ option_map unchanged_parts o
  parts_at true None = refl
  parts_at true (Some e) = ap (λ s. Some (e.uid, (rest e, s))) (widened_overlap row e)
  parts_at false o = refl

  leads_at : (k : Bool) (o : Option EntityView) (b : EntityUID)
      → is_ancestor_in (cond k (option_map (widened row) o) o) b
      ≡ (is_ancestor_in o b || (k && (is_some o && set.contains row b)))
  leads_at true None b = refl
  leads_at true (Some e) b = widened_leads row e b
  leads_at false o b = sym (or-false (is_ancestor_in o b))

  pub row_added : AddsRow (held_map m) (held_map n) key row
  row_added = record {
    others = λ q out. made q ∙ ap (λ b. cond b (option_map (widened row) (finmap.get (held_map m) q))
        (finmap.get (held_map m) q)) out;
    parts = λ q. ap (option_map unchanged_parts) (made q) ∙ parts_at (same_uid key q) (finmap.get (held_map m) q);
    edges = λ q b. ap (λ o. is_ancestor_in o b) (made q) ∙ leads_at (same_uid key q) (finmap.get (held_map m) q) b;
  }

-- The row for an entity of the map.
module _ {S : Type 0} (m : HashMap EntityUID SharedEntity S) (A : EntityUID → Bool) (key : EntityUID) (row : UidValues) where
  there : (o : Option EntityView) → entity_at m key ≡ o → (q : EntityUID) → same_uid key q ≡ true
      → finmap.get (held_map m) q ≡ o
  there o is q same = get_seen m q ∙ sym (ap (entity_at m) ((same_uid_decides key q).0 same)) ∙ is

  leads_in : (e : EntityView) → entity_at m key ≡ Some e → (q b : EntityUID) → same_uid key q ≡ true
      → ancestry (held_map m) q b ≡ has_ancestor e b
  leads_in e is q b same = ap (λ o. is_ancestor_in o b) (there (Some e) is q same)

  pub row_for : (e : EntityView) → entity_at m key ≡ Some e → IsRowApart A (entity_at m) key e row
      → IsRowAbove A (held_map m) key row
  row_for e is r = record {
    outside = λ q b same h. r.outside b (sym (leads_in e is q b same) ∙ h);
    above = λ q b same h.
        let w = r.row_of.above b h in
        (w.0, leads_in e is q w.0 same ∙ w.1, ap (λ o. is_ancestor_in o b) (get_seen m w.0) ∙ w.2);
    all = λ q y b same up over.
        r.row_of.all y b (sym (leads_in e is q y same) ∙ up) (sym (ap (λ o. is_ancestor_in o b) (get_seen m y)) ∙ over);
    apart = λ q same. sym (ap (set.contains row) ((same_uid_decides key q).0 same)) ∙ r.apart;
  }

  -- There is no entity, and the row is empty.
  pub row_for_none : entity_at m key ≡ None → row ≡ set.empty → IsRowAbove A (held_map m) key row
  row_for_none is none =
      let out : (q b : EntityUID) → same_uid key q ≡ true → ancestry (held_map m) q b ≡ false = λ q b same.
      ap (λ o. is_ancestor_in o b) (there None is q same) in
      let empty : (b : EntityUID) → set.contains row b ≡ false = λ b.
      ap (λ r. set.contains r b) none ∙ set.contains-empty uid_order b in
      record {
        outside = λ q b same h. absurd (false≢true (sym (out q b same) ∙ h));
        above = λ q b same h. absurd (false≢true (sym (empty b) ∙ h));
        all = λ q y b same up over. absurd (false≢true (sym (out q y same) ∙ up));
        apart = λ q same. empty q;
      }

pub some_weaker : {X : Type 0} (P Q : X → Type 0) (o : Option X) → ((x : X) → P x → Q x) → IfSome o P → IfSome o Q
some_weaker P Q None f h = tt
some_weaker P Q (Some x) f h = f x h

-- One entity gets the ancestors of its ancestors.
module _ (A left after : EntityUID → Bool) (D N M : EntityMap) (key : EntityUID) (row : UidValues)
    (touched : (q : EntityUID) → same_uid key q ≡ true → A q ≡ true) (above : IsRowAbove A N key row)
    (adds : AddsRow N M key row) (remaining : IsRest true key left after) (so_far : IsMerged A left D N) where
  more : KeepsEdges (ancestry N) (ancestry M)
  more a b h = adds.edges a b ∙ ap (λ x. x || (same_uid key a && (is_some (finmap.get N a) && set.contains row b))) h

  reached_new : AddsOnlyReached (ancestry N) (ancestry M)
  reached_new a b h = at (ancestry N a b) refl (same_uid key a) refl (is_some (finmap.get N a)) (set.contains row b) refl
      (sym (adds.edges a b) ∙ h)
    where
      at : (e : Bool) → ancestry N a b ≡ e → (k : Bool) → same_uid key a ≡ k → (s r : Bool) → set.contains row b ≡ r
          → (e || (k && (s && r))) ≡ true → Reach (ancestry N) a b
      at true t k same s r has h = reach_edge (ancestry N) a b t
      at false t false same s r has h = absurd (false≢true h)
      at false t true same false r has h = absurd (false≢true h)
      at false t true same true false has h = absurd (false≢true h)
      at false t true same true true has h =
          let w = above.above a b same has in
          reach_trans (ancestry N) a w.0 b (reach_edge (ancestry N) a w.0 w.1) (reach_edge (ancestry N) w.0 b w.2)

  not_left : (x : EntityUID) → A x ≡ false → left x ≡ false
  not_left x f = false_from_ne_true _ (λ l. false≢true (sym f ∙ so_far.within x l))

  gained : (a b : EntityUID) → IsTrusted A (ancestry D) → same_uid key a ≡ true → Reach (ancestry N) a b
      → (ancestry N a b ≡ true) ⊎ (set.contains row b ≡ true)
  gained a b t k ([], p) = inl p
  gained a b t k (x ∷ xs, p) =
      inr (above.all a x b k p.0 (so_far.trusted t x b (not_left x (above.outside a x k p.0)) (xs, p.1)))

  written : (a b : EntityUID) → same_uid key a ≡ true → is_some (finmap.get N a) ≡ true → set.contains row b ≡ true
      → ancestry M a b ≡ true
  written a b k s r =
      adds.edges a b ∙ (λ i. ancestry N a b || (k i && (s i && r i))) ∙ or_true (ancestry N a b)

  trusted_after : IsTrusted A (ancestry D) → IsTrusted after (ancestry M)
  trusted_after t a b off r = at (same_uid key a) refl
    where
      p : Reach (ancestry N) a b
      p = reach_over_reach (ancestry N) (ancestry M) reached_new a b r

      at : (k : Bool) → same_uid key a ≡ k → ancestry M a b ≡ true
      at true k = elim (gained a b t k p) [
        | inl e ↦ more a b e
        | inr c ↦ written a b k (first_some N a b p) c
      ]
      at false k = more a b (so_far.trusted t a b
          (false_from_ne_true _ (λ l. false≢true (sym off ∙ remaining.rest a l k))) p)

  acyclic_after : IsTrusted A (ancestry D) → HasNoCycleAt after (ancestry M) → HasNoCycleAt A (ancestry D)
  acyclic_after t none = so_far.acyclic t (λ a l p. at a l p (same_uid key a) refl)
    where
      at : (a : EntityUID) → left a ≡ true → Reach (ancestry N) a a → (k : Bool) → same_uid key a ≡ k → ⊥
      at a l p true k = elim (gained a a t k p) [
        | inl e ↦ false≢true (sym (above.outside a a k e) ∙ touched a k)
        | inr c ↦ false≢true (sym (above.apart a k) ∙ c)
      ]
      at a l p false k =
          none a (remaining.rest a l k) ((reach_between (ancestry N) (ancestry M) more reached_new a a).1 p)

  pub merge_step : IsMerged A after D M
  merge_step = record {
    within = λ q h. so_far.within q (remaining.less q h);
    parts = λ q. adds.parts q ∙ so_far.parts q;
    alone = λ q f. adds.others q (false_from_ne_true _ (λ k. false≢true (sym f ∙ touched q k))) ∙ so_far.alone q f;
    stays = λ a b h. more a b (so_far.stays a b h);
    only = λ a b h. reach_over_reach (ancestry D) (ancestry N) so_far.only a b (reached_new a b h);
    trusted = trusted_after;
    acyclic = acyclic_after;
  }

-- An entity that is not repaired stays among those left.
pub merge_none : (A left after : EntityUID → Bool) (D N : EntityMap) (key : EntityUID) → IsRest false key left after
    → IsMerged A left D N → IsMerged A after D N
merge_none A left after D N key remaining so_far = record {
  within = λ q h. so_far.within q (remaining.less q h);
  parts = so_far.parts;
  alone = so_far.alone;
  stays = so_far.stays;
  only = so_far.only;
  trusted = λ t a b off r. so_far.trusted t a b
      (false_from_ne_true _ (λ l. false≢true (sym off ∙ remaining.all refl a l))) r;
  acyclic = λ t none. so_far.acyclic t (λ a l. none a (remaining.all refl a l));
}

-- At first all affected entities are left.
pub merge_begin : (A left : EntityUID → Bool) (D : EntityMap) → ((q : EntityUID) → left q ≡ A q) → IsMerged A left D D
merge_begin A left D same = record {
  within = λ q h. sym (same q) ∙ h;
  parts = λ q. refl;
  alone = λ q f. refl;
  stays = λ a b h. h;
  only = λ a b h. reach_edge (ancestry D) a b h;
  trusted = λ t a b off r. t a b (sym (same a) ∙ off) r;
  acyclic = λ t none a h p. none a (same a ∙ h) p;
}

-- The same entities are left, by another test.
pub merge_same : (A left after : EntityUID → Bool) (D N : EntityMap) → ((q : EntityUID) → after q ≡ left q)
    → IsMerged A left D N → IsMerged A after D N
merge_same A left after D N same m = record {
  within = λ q h. m.within q (sym (same q) ∙ h);
  parts = m.parts;
  alone = m.alone;
  stays = m.stays;
  only = m.only;
  trusted = λ t a b off r. m.trusted t a b (sym (same a) ∙ off) r;
  acyclic = λ t none. m.acyclic t (λ a l. none a (same a ∙ l));
}

and_first : (x y : Bool) → (x && y) ≡ true → x ≡ true
and_first true y h = refl
and_first false y h = h

and_off : (x y : Bool) → y ≡ false → (x && y) ≡ false
and_off true y h = h
and_off false y h = refl

still_out : (m s : Bool) → s ≡ false → not (m || s) ≡ not m
still_out true s h = refl
still_out false s h = ap not h

-- The uids left after one more entity was repaired.
pub rest_done : (A : EntityUID → Bool) (merged : List EntityUID) (k : EntityUID)
    → IsRest true k (is_left A merged) (is_left A (merged ++ k ∷ []))
rest_done A merged k = record {
  less = λ q h. fewer q (A q) (is_member same_uid merged q) (same_uid k q)
      (sym (ap (λ b. A q && not b) (member_push merged k q)) ∙ h);
  rest = λ q h out. ap (λ b. A q && not b) (member_push merged k q)
      ∙ ap (λ b. A q && b) (still_out (is_member same_uid merged q) (same_uid k q) out) ∙ h;
  all = λ no. absurd (false≢true (sym no));
}
  where
    fewer : (q : EntityUID) (x m s : Bool) → (x && not (m || s)) ≡ true → (x && not m) ≡ true
    fewer q true true s h = h
    fewer q true false s h = refl
    fewer q false m s h = h

-- A uid of a list is a member of it.
pub member_at : (us : List EntityUID) (i : ℕ) (k : EntityUID) → i < length us → k ≡ get_or us i k
    → is_member same_uid us k ≡ true
member_at us i k lt is = list_any_at (same_uid k) us i k lt (ap (same_uid k) (sym is) ∙ same_uid_equiv.refl k)

-- The uids left after one was not repaired.
pub rest_same : (k : EntityUID) (left : EntityUID → Bool) → IsRest false k left left
rest_same k left = record { less = λ q h. h; rest = λ q h _. h; all = λ _ q h. h }

pub left_within : (A : EntityUID → Bool) (q : EntityUID) → A q ≡ is_left A [] q
left_within A q = sym (and-true (A q))

-- A clone of a list of uids is the list.
pub cloned : (xs ys : List EntityUID) → AllZip (λ x y. y ≡ x) xs ys → ys ≡ xs
cloned [] [] h = refl
cloned [] (y ∷ ys) h = absurd h
cloned (x ∷ xs) [] h = absurd h
cloned (x ∷ xs) (y ∷ ys) h = λ i. h.0 i ∷ cloned xs ys h.1 i

-- The uids of a set without those of a list, after one more was removed.
pub left_more : (s t : Bool) (A : EntityUID → Bool) (us : List EntityUID) (i : ℕ) (k q : EntityUID) → i < length us
    → k ≡ get_or us i k → s ≡ is_left A (take i us) q → t ≡ cond (same_uid k q) false s
    → t ≡ is_left A (take (i + 1) us) q
left_more s t A us i k q lt is so step =
    step ∙ ap (cond (same_uid k q) false) so
    ∙ at (same_uid k q) (A q) (is_member same_uid (take i us) q)
    ∙ ap (λ b. A q && not b) (sym (member_more us i k q lt is))
  where
    at : (b x m : Bool) → cond b false (x && not m) ≡ (x && not (m || b))
    at true x true = sym (and_off x false refl)
    at true x false = sym (and_off x false refl)
    at false x true = refl
    at false x false = refl

-- A repair of the entities that are left is a repair of all affected ones.
module _ (A left : EntityUID → Bool) (D N : EntityMap) (m : IsMerged A left D N) where
  same : ReachesSame (ancestry D) (ancestry N)
  same = reach_between (ancestry D) (ancestry N) m.stays m.only

  repair_from : (E : EntityMap) → IsRepairOf left N E → IsRepairOf A D E
  repair_from E r = record {
    parts = λ q. r.parts q ∙ m.parts q;
    alone = λ q f. r.alone q (false_from_ne_true _ (λ l. false≢true (sym f ∙ m.within q l))) ∙ m.alone q f;
    stays = λ a b h. r.stays a b (m.stays a b h);
    only = λ a b h. (same a b).0 (r.only a b h);
    closed = λ t none a b.
        let c = r.closed (m.trusted t) (λ v l p. none v (m.within v l) ((same v v).0 p)) in
        (λ h. (same a b).0 ((c a b).0 h), λ p. (c a b).1 ((same a b).1 p));
  }

  acyclic_from : IsAcyclicAt left N → IsAcyclicAt A D
  acyclic_from h t = m.acyclic t (h (m.trusted t))

  cycle_from : (t : TcError EntityUID) → ReportsCycle N t → ReportsCycle D t
  cycle_from (tc.MissingTcEdge x) h = h
  cycle_from (tc.HasCycle x) h = (same x.vertex x.vertex).0 h
  cycle_from tc.Memory h = h

  fault_from : (t : TcError EntityUID) → IsClosureFault t (λ _ _ _. ⊤) (λ v. left v ≡ true)
      → IsClosureFault t (λ _ _ _. ⊤) (λ v. A v ≡ true)
  fault_from (tc.MissingTcEdge x) h = h
  fault_from (tc.HasCycle x) h = m.within x.vertex h
  fault_from tc.Memory h = h

  named_from : (e : EntitiesError) → NamesOneOf left e → NamesOneOf A e
  named_from e h = refusal_cases (λ _. ⊤) (λ t. IsClosureFault t (λ _ _ _. ⊤) (λ v. left v ≡ true)) (NamesOneOf A)
      (λ u n. tt) fault_from tt e h

  ended_from : (b : Bool) (E : EntityMap) → IsEnded (repairing b) left N E → IsEnded (repairing b) A D E
  ended_from true E h = (repair_from E h.0, acyclic_from h.1)
  ended_from false E h = repair_from E h

  told_from : (b : Bool) (t : TcError EntityUID) → IsEndError (repairing b) left N t → IsEndError (repairing b) A D t
  told_from true t h = cycle_from t h
  told_from false t h = h

  one_from : (b : Bool) (e : EntitiesError) → OnTrue (computes (repairing b)) (NamesOneOf left e)
      → OnTrue (computes (repairing b)) (NamesOneOf A e)
  one_from true e h = named_from e h
  one_from false e h = tt

  pub ends_merged : {X : Type 0} (b : Bool) (E : EntityMap) (r : Result X EntitiesError) → Ends (repairing b) left N E r
      → Ends (repairing b) A D E r
  ends_merged b E (Ok x) ends = record { ok = ended_from b E ends.ok; err = tt; named = tt }
  ends_merged b E (Err e) ends = record {
    ok = tt;
    err = refused_for (IsEndError (repairing b) left N) (IsEndError (repairing b) A D) (told_from b) e ends.err;
    named = one_from b e ends.named;
  }
