-- The entity map that has the entities of an edited part, and the other entities of the whole.
use Rattle.std.specs.Prelude.{◌≡◌, ◌↔◌, Bool, true, false, cond, not, List, [], ◌∷◌, ◌++◌, Option, Some, None}
use Rattle.std.proofs.Common.{ap, sym, refl, subst, ◌∙◌, inl, inr}
use Rattle.std.proofs.lemmas.Bool.{false≢true}
use Rattle.std.specs.Option.{IfSome, is_some, option_map, option_or}
use Rattle.std.specs.FinMap as finmap
use Rattle.cedar_graph.specs.Graph.{Path, Reach}
use Rattle.cedar_ids.specs.UidOf.{uid_order}
use Rattle.cedar_ids.specs.declared.entity.EntityUID.{EntityUID}
use Rattle.cedar_uid_sets.specs.laws.Sets.{one_equal}
use Rattle.cedar_entity.specs.View.{EntityView, has_ancestor}
use Rattle.cedar_entity_maps.specs.Plain.{EntityMap, StoreView, IsPlainStore, HasDisjointParents, parts_of}
use Rattle.cedar_entity_maps.specs.InputStore.{InputStore, graph, is_parent_in}
use Rattle.cedar_entity_maps.specs.laws.InputStores.{get_joined}
use Rattle.cedar_dry_run.specs.laws.Found.{or_none}
use Rattle.cedar_dry_run.specs.laws.Parts.{passes_or_not}

module _ (D N : EntityMap) (test : EntityUID → Bool) where
  abbrev left : EntityMap
  left = finmap.retain_keys D (λ q. not (test q))

  -- The entities of N, and the entities of D at the other uids.
  pub united : EntityMap
  united = finmap.from_entries (finmap.entries N ++ finmap.entries left)

  get_left : (q : EntityUID) → finmap.get left q ≡ cond (not (test q)) (finmap.get D q) None
  get_left q = finmap.get-retain_keys D (λ k. not (test k)) q (λ x t. ap (λ k. not (test k)) (sym (one_equal q x t)))

  get_united : (q : EntityUID)
      → finmap.get united q ≡ option_or (finmap.get N q) (cond (not (test q)) (finmap.get D q) None)
  unfolding united
  get_united q =
      get_joined (finmap.entries N) (finmap.entries left) q
      ∙ ap (λ o. option_or o (finmap.find uid_order q (finmap.entries left))) (sym (finmap.get-entries N q))
      ∙ ap (option_or (finmap.get N q)) (sym (finmap.get-entries left q) ∙ get_left q)

  -- A uid that passes the test has its entity in N.
  pub united_in : (q : EntityUID) → test q ≡ true → finmap.get united q ≡ finmap.get N q
  united_in q t =
      get_united q ∙ ap (λ b. option_or (finmap.get N q) (cond (not b) (finmap.get D q) None)) t
      ∙ or_none (finmap.get N q)

  -- Any other uid has its entity in D.
  pub united_out : (q : EntityUID) → test q ≡ false → finmap.get N q ≡ None → finmap.get united q ≡ finmap.get D q
  united_out q f n =
      get_united q ∙ ap (λ b. option_or (finmap.get N q) (cond (not b) (finmap.get D q) None)) f
      ∙ ap (λ o. option_or o (finmap.get D q)) n

-- Two graphs with the same edges from the keys of a class that no edge leaves.
module _ {K : Type 0} (G H : K → K → Bool) (C : K → Type 0) (same : (a b : K) → C a → G a b ≡ H a b)
    (next : (a b : K) → C a → G a b ≡ true → C b) where
  path_to : (a b : K) (xs : List K) → C a → Path G a xs b → Path H a xs b
  path_to a b [] c p = sym (same a b c) ∙ p
  path_to a b (x ∷ xs) c p = (sym (same a x c) ∙ p.0, path_to x b xs (next a x c p.0) p.1)

  path_from : (a b : K) (xs : List K) → C a → Path H a xs b → Path G a xs b
  path_from a b [] c p = same a b c ∙ p
  path_from a b (x ∷ xs) c p = let g = same a x c ∙ p.0 in (g, path_from x b xs (next a x c g) p.1)

  -- A key of the class reaches the same keys in both.
  pub same_reach : (a b : K) → C a → Reach H a b ↔ Reach G a b
  same_reach a b c = (λ r. (r.0, path_from a b r.0 c r.1), λ r. (r.0, path_to a b r.0 c r.1))

-- An optional entity is absent if a part of it is.
pub none_of : {X : Type 0} (f : EntityView → X) (o : Option EntityView) → option_map f o ≡ None → o ≡ None
none_of f None h = refl
none_of f (Some e) h = absurd (false≢true (sym (ap is_some h)))

-- The ancestors of an entity are the uids that it reaches, in two graphs in which it reaches the same.
reached_alike : (G H : EntityUID → EntityUID → Bool) (q : EntityUID) (o : Option EntityView)
    → ((x : EntityUID) → Reach H q x ↔ Reach G q x)
    → IfSome o (λ e. (x : EntityUID) → (has_ancestor e x ≡ true) ↔ Reach G q x)
    → IfSome o (λ e. (x : EntityUID) → (has_ancestor e x ≡ true) ↔ Reach H q x)
reached_alike G H q None both h = tt
reached_alike G H q (Some e) both h = λ x. (λ t. (both x).1 ((h x).0 t), λ r. (h x).1 ((both x).0 r))

-- S is the plain store of W, and Y is W after an edit. X is a part of Y: it has the entities of Y at the uids that pass
-- a test, and no others. N is the plain store of X. At the other uids, Y has the entities of W, and these reach the same
-- uids in both.
module _ (W Y : InputStore) (S : StoreView) (plain : IsPlainStore W S) (X : InputStore) (N : StoreView)
    (edited : IsPlainStore X N) (test : EntityUID → Bool)
    (same : (a : EntityUID) → test a ≡ true → finmap.get X.entities a ≡ finmap.get Y.entities a)
    (none : (a : EntityUID) → test a ≡ false → finmap.get X.entities a ≡ None)
    (old : (a : EntityUID) → test a ≡ false → finmap.get Y.entities a ≡ finmap.get W.entities a)
    (next : (a b : EntityUID) → test a ≡ true → graph Y a b ≡ true → test b ≡ true)
    (reach : (q x : EntityUID) → test q ≡ false → Reach (graph Y) q x ↔ Reach (graph W) q x)
    (mode : Y.partial ≡ W.partial) where
  no_entity : (q : EntityUID) → test q ≡ false → finmap.get N.entities q ≡ None
  no_entity q f = none_of parts_of (finmap.get N.entities q) (edited.holds q ∙ none q f)

  reach_part : (q x : EntityUID) → test q ≡ true → Reach (graph Y) q x ↔ Reach (graph X) q x
  reach_part q x t = same_reach (graph X) (graph Y) (λ a. test a ≡ true)
      (λ a b h. ap (λ o. is_parent_in o b) (same a h))
      (λ a b h g. next a b h (sym (ap (λ o. is_parent_in o b) (same a h)) ∙ g)) q x t

  at : (P : Option EntityView → Type 0) (q : EntityUID) → (test q ≡ true → P (finmap.get N.entities q))
      → (test q ≡ false → P (finmap.get S.entities q)) → P (finmap.get (united S.entities N.entities test) q)
  at P q f g = elim (passes_or_not (test q)) [
    | inl t ↦ subst P (sym (united_in S.entities N.entities test q t)) (f t)
    | inr n ↦ subst P (sym (united_out S.entities N.entities test q n (no_entity q n))) (g n)
  ]

  -- The united entity map is that of the plain store of Y.
  pub united_plain : IsPlainStore Y (record S { entities = united S.entities N.entities test })
  united_plain = record {
    partial = plain.partial ∙ sym mode;
    holds = λ q. at (λ o. option_map parts_of o ≡ finmap.get Y.entities q) q (λ t. edited.holds q ∙ same q t)
        (λ f. plain.holds q ∙ sym (old q f));
    keyed = λ q. at (λ o. IfSome o (λ e. e.uid ≡ q)) q (λ t. edited.keyed q) (λ f. plain.keyed q);
    reached =
        λ q. at (λ o. IfSome o (λ e. (x : EntityUID) → (has_ancestor e x ≡ true) ↔ Reach (graph Y) q x)) q
        (λ t. reached_alike (graph X) (graph Y) q (finmap.get N.entities q) (λ x. reach_part q x t) (edited.reached q))
        (λ f. reached_alike (graph W) (graph Y) q (finmap.get S.entities q) (λ x. reach q x f) (plain.reached q));
    apart = λ q. at (λ o. IfSome o HasDisjointParents) q (λ t. edited.apart q) (λ f. plain.apart q);
    acyclic = λ q r. elim (passes_or_not (test q)) [
      | inl t ↦ edited.acyclic q ((reach_part q q t).0 r)
      | inr f ↦ plain.acyclic q ((reach q q f).0 r)
    ];
  }
