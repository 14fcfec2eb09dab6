-- Conditions for a plain store.
use Rattle.std.specs.Prelude.{◌≡◌, ◌↔◌, Bool, true, false, cond, List, [], ◌∷◌, Option, Some, None, map, ⊤, ◌||◌, ◌&&◌}
use Rattle.std.proofs.Common.{ap, sym, refl, subst, ◌∙◌}
use Rattle.std.proofs.Math.Bool.{or-false}
use Rattle.std.proofs.lemmas.Simd.{map-map}
use Rattle.std.proofs.lemmas.Bool.{false≢true}
use Rattle.std.specs.Option.{option_or, option_map, is_some, IfSome, MatchOption, unwrap_or}
use Rattle.std.specs.List.{AllByRecursion}
use Rattle.std.specs.FinSet as set
use Rattle.std.specs.FinMap as finmap
use Rattle.std.specs.Ordering.{eq_by_cmp}
use Rattle.cedar_graph.specs.Graph.{Reach, Path, KeepsEdges, AddsOnlyReached}
use Rattle.cedar_graph.specs.laws.Reaches.{reach_between}
use Rattle.cedar_graph.specs.declared.err.TcError.{TcError}
use Rattle.cedar_graph.specs.declared.err.TcError.TheVariants as tc
use Rattle.cedar_ids.specs.UidOf.{uid_order}
use Rattle.cedar_ids.specs.laws.UidOfLaws.{uid_order_total, same_uid_decides}
use Rattle.cedar_ids.specs.declared.entity.EntityUID.{EntityUID}
use Rattle.cedar_uid_sets.specs.laws.Sets.{same_tests}
use Rattle.cedar_entity.specs.View.{EntityView, has_ancestor, UnchangedParts, unchanged_parts, overlap}
use Rattle.cedar_entity_maps.specs.ClosureFaults.{IsClosureFault}
use Rattle.cedar_entity_maps.specs.Plain.{StoreView, EntityMap, IsPlainStore, IsKeyed, HasNoIndirect, HasDisjointParents, parts_of, input_of}
use Rattle.cedar_entity_maps.specs.Plain.{keyed}
use Rattle.cedar_entity_maps.specs.Modes.{ancestry, is_ancestor_in}
use Rattle.cedar_entities.specs.laws.Closures.{IsClosureOf}
use Rattle.cedar_entities.specs.Present.{first_entity}
use Rattle.cedar_entity_maps.specs.InputStore.{InputStore, Parts, graph, is_parent_in, empty_input, entry_of, first}
use Rattle.cedar_entity_maps.specs.laws.PlainAncestors.{first_key}
use Rattle.cedar_entity_maps.specs.laws.InputStores.{find-mapped}

parts_of_kept : UnchangedParts → Parts
parts_of_kept k = record { attrs = k.1.0.0.0; tags = k.1.0.0.1; parents = k.1.0.1 }

kept_parts : (o : Option EntityView) → option_map parts_of o ≡ option_map parts_of_kept (option_map unchanged_parts o)
unfolding parts_of_kept
kept_parts None = refl
kept_parts (Some e) = refl

pub parts_alike : (o p : Option EntityView) → option_map unchanged_parts o ≡ option_map unchanged_parts p
    → option_map parts_of o ≡ option_map parts_of p
parts_alike o p e = kept_parts o ∙ ap (option_map parts_of_kept) e ∙ sym (kept_parts p)

keyed_at : (q : EntityUID) (o p : Option EntityView) → option_map unchanged_parts o ≡ option_map unchanged_parts p → IfSome p (λ e. e.uid ≡ q)
    → IfSome o (λ e. e.uid ≡ q)
keyed_at q None p e h = tt
keyed_at q (Some n) None e h = absurd (subst (λ (o : Option UnchangedParts). MatchOption o ⊥ (λ _. ⊤)) e tt)
keyed_at q (Some n) (Some v) e h = ap (λ (o : Option UnchangedParts). (unwrap_or o (unchanged_parts n)).0) e ∙ h

reached_at : (R : EntityUID → Type 0) (o : Option EntityView) → ((x : EntityUID) → (is_ancestor_in o x ≡ true) ↔ R x)
    → IfSome o (λ e. (x : EntityUID) → (has_ancestor e x ≡ true) ↔ R x)
reached_at R None h = tt
reached_at R (Some e) h = h

pub none_both : (p i : Bool) → (p ≡ true → i ≡ false) → (p && i) ≡ false
none_both true i h = h refl
none_both false i h = refl

and_to : (p i : Bool) → (p && i) ≡ false → p ≡ true → i ≡ false
and_to p i h k = ap (λ b. b && i) (sym k) ∙ h

apart_at : (o p : Option EntityView) → option_map unchanged_parts o ≡ option_map unchanged_parts p → IfSome p HasDisjointParents → IfSome o HasDisjointParents
apart_at None p e h = tt
apart_at (Some n) None e h = absurd (subst (λ (o : Option UnchangedParts). MatchOption o ⊥ (λ _. ⊤)) e tt)
apart_at (Some n) (Some v) e h = λ x t.
    let same : overlap n ≡ overlap v = ap (λ (o : Option UnchangedParts). (unwrap_or o (unchanged_parts n)).1.1) e in
    and_to (set.contains n.parents x) (set.contains n.indirect x)
    (sym (set.contains-intersection uid_order_total n.parents n.indirect x) ∙ ap (λ s. set.contains s x) same
    ∙ set.contains-intersection uid_order_total v.parents v.indirect x
    ∙ none_both (set.contains v.parents x) (set.contains v.indirect x) (h x)) t

pub parent_leads : (o : Option EntityView) (b : EntityUID) → is_parent_in (option_map parts_of o) b ≡ true
    → is_ancestor_in o b ≡ true
parent_leads None b h = h
parent_leads (Some e) b h = ap (λ p. p || set.contains e.indirect b) h

-- The parents are ancestors.
parents_lead : (W : InputStore) (D : EntityMap) → ((q : EntityUID)
    → option_map parts_of (finmap.get D q) ≡ finmap.get W.entities q) → KeepsEdges (graph W) (ancestry D)
parents_lead W D holds a b h = parent_leads (finmap.get D a) b (ap (λ o. is_parent_in o b) (holds a) ∙ h)

-- If D has the parts of the input store and only reached ancestors, and the store is the closure of D, the store is
-- plain.
pub plain_from : (W : InputStore) (D : EntityMap) (S : StoreView) → S.partial ≡ W.partial
    → ((q : EntityUID) → option_map parts_of (finmap.get D q) ≡ finmap.get W.entities q)
    → IsKeyed D
    → ((q : EntityUID) → IfSome (finmap.get D q) HasDisjointParents)
    → AddsOnlyReached (graph W) (ancestry D)
    → IsClosureOf D S.entities
    → IsPlainStore W S
plain_from W D S partial holds keys apart only closed =
    let G = reach_between (graph W) (ancestry D) (parents_lead W D holds) only in
    record {
      partial = partial;
      holds = λ q. parts_alike (finmap.get S.entities q) (finmap.get D q) (closed.parts q) ∙ holds q;
      keyed = λ q. keyed_at q (finmap.get S.entities q) (finmap.get D q) (closed.parts q) (keys q);
      reached =
          λ q. reached_at (Reach (graph W) q) (finmap.get S.entities q)
          (λ x. (λ e. (G q x).0 ((closed.ancestors q x).0 e), λ r. (closed.ancestors q x).1 ((G q x).1 r)));
      apart = λ q. apart_at (finmap.get S.entities q) (finmap.get D q) (closed.parts q) (apart q);
      acyclic = λ q r. closed.acyclic q ((G q q).1 r);
    }

-- If a uid reaches itself over reached ancestors, it reaches itself over parents.
pub cycle_in : (W : InputStore) (D : EntityMap) → ((q : EntityUID)
    → option_map parts_of (finmap.get D q) ≡ finmap.get W.entities q) → AddsOnlyReached (graph W) (ancestry D)
    → (t : TcError EntityUID) → IsClosureFault t (λ _ _ _. ⊥) (λ v. Reach (ancestry D) v v)
    → IsClosureFault t (λ _ _ _. ⊥) (λ v. Reach (graph W) v v)
cycle_in W D holds only (tc.MissingTcEdge x) h = h
cycle_in W D holds only (tc.HasCycle x) h =
    (reach_between (graph W) (ancestry D) (parents_lead W D holds) only x.vertex x.vertex).0 h
cycle_in W D holds only tc.Memory h = h

-- The empty store.
no_path : (xs : List EntityUID) (a b : EntityUID) → Path (graph empty_input) a xs b → ⊥
no_path xs a b p =
    false≢true (sym (ap is_some (finmap.get-empty {X = Parts} uid_order a)) ∙ first_key empty_input a b xs p)

pub plain_empty : (k : Bool) → IsPlainStore empty_input (record { entities = finmap.empty; partial = false; known_plain = k })
plain_empty k =
    let none = λ (q : EntityUID). finmap.get-empty {X = EntityView} uid_order q in
    record {
      partial = refl;
      holds = λ q. ap (option_map parts_of) (none q) ∙ sym (finmap.get-empty uid_order q);
      keyed = λ q. subst (λ o. IfSome o (λ (e : EntityView). e.uid ≡ q)) (sym (none q)) tt;
      reached =
          λ q. subst (λ o. IfSome o (λ (e : EntityView). (x : EntityUID)
          → (has_ancestor e x ≡ true) ↔ Reach (graph empty_input) q x)) (sym (none q)) tt;
      apart = λ q. subst (λ o. IfSome o HasDisjointParents) (sym (none q)) tt;
      acyclic = λ q r. no_path r.0 q q r.1;
    }

-- Additions.
pub found_parts : (L : List EntityView) (q : EntityUID)
    → first (map input_of L) q ≡ option_map parts_of (first_entity L q)
found_parts L q =
    ap (finmap.find uid_order q) (map-map entry_of input_of L ∙ sym (map-map (λ e. (e.0, parts_of e.1)) keyed L))
    ∙ find-mapped parts_of (map keyed L) q

pub map_or : (o p : Option EntityView) → option_map parts_of (option_or o p)
    ≡ option_or (option_map parts_of o) (option_map parts_of p)
map_or None p = refl
map_or (Some x) p = refl

module _ (P : EntityView → Type 0) where
  pub if_or : (o p : Option EntityView) → IfSome o P → IfSome p P → IfSome (option_or o p) P
  if_or None p h k = k
  if_or (Some x) p h k = h

  pub if_cond : (b : Bool) (e : EntityView) (o : Option EntityView) → (b ≡ true → P e) → IfSome o P
      → IfSome (cond b (Some e) o) P
  if_cond true e o h k = h refl
  if_cond false e o h k = k

-- A property of all entities of a list is a property of the first with a uid.
pub first_all : (P : EntityView → Type 0) (L : List EntityView) → AllByRecursion P L → (q : EntityUID)
    → IfSome (first_entity L q) P
first_all P [] h q = tt
first_all P (e ∷ L) h q = if_cond P (eq_by_cmp uid_order q e.uid) e (first_entity L q) (λ _. h.0) (first_all P L h.1 q)

pub first_keyed : (L : List EntityView) (q : EntityUID) → IfSome (first_entity L q) (λ e. e.uid ≡ q)
first_keyed [] q = tt
first_keyed (e ∷ L) q =
    if_cond (λ x. x.uid ≡ q) (eq_by_cmp uid_order q e.uid) e (first_entity L q)
    (λ t. sym ((same_uid_decides q e.uid).0 (ap (λ f. f q e.uid) (sym same_tests) ∙ t))) (first_keyed L q)

pub bare_apart : (o : Option EntityView) → IfSome o HasNoIndirect → IfSome o HasDisjointParents
bare_apart None h = tt
bare_apart (Some e) h = λ x _. h x

pub parents_alone : (e : EntityView) (b : EntityUID) → set.contains e.indirect b ≡ false
    → has_ancestor e b ≡ set.contains e.parents b
parents_alone e b h = ap (λ x. set.contains e.parents b || x) h ∙ or-false (set.contains e.parents b)

-- The ancestors of an entity without indirect ancestors are its parents.
pub bare_leads : (o : Option EntityView) (b : EntityUID) → IfSome o HasNoIndirect
    → is_ancestor_in o b ≡ is_parent_in (option_map parts_of o) b
bare_leads None b h = refl
bare_leads (Some e) b h = parents_alone e b (h b)
