-- The slice of the plain store of an input store.
use Rattle.std.specs.Prelude.{◌≡◌, ◌↔◌, Bool, true, false, cond, List, [], ◌∷◌, Option, Some, None, is_some}
use Rattle.std.proofs.Common.{ap, sym, refl, subst, ◌∙◌, inl, inr}
use Rattle.std.proofs.lemmas.Bool.{false≢true}
use Rattle.std.specs.Option.{IfSome, option_map}
use Rattle.std.specs.FinMap as finmap
use Rattle.cedar_graph.specs.Graph.{Path, Reach}
use Rattle.cedar_graph.specs.laws.Reaches.{reach_edge, reach_trans, reach_over_reach}
use Rattle.cedar_ids.specs.UidOf.{uid_order}
use Rattle.cedar_ids.specs.declared.entity.EntityUID.{EntityUID}
use Rattle.cedar_uid_sets.specs.laws.Sets.{one_equal}
use Rattle.cedar_entity.specs.View.{has_ancestor}
use Rattle.cedar_entity_maps.specs.Modes.{ancestry}
use Rattle.cedar_entity_maps.specs.Plain.{StoreView, IsPlainStore, HasDisjointParents, parts_of}
use Rattle.cedar_entity_maps.specs.InputStore.{InputStore, graph, is_parent_in}
use Rattle.cedar_entity_maps.specs.laws.PlainAncestors.{ancestry_plain, first_key, plain_as}
use Rattle.cedar_slice.specs.Slices.{is_wanted, sliced, part_of, IsWanted, IsPlainSlice, IsPartWith}
use Rattle.cedar_slice.specs.laws.OneSlice.{part_edges, wanted_by}

-- A lookup in a map after its keys were filtered.
pub get_kept : {X : Type 0} (m : finmap.FinMap uid_order X) (test : EntityUID → Bool) (q : EntityUID)
    → finmap.get (finmap.retain_keys m test) q ≡ cond (test q) (finmap.get m q) None
get_kept m test q = finmap.get-retain_keys m test q (λ x t. ap test (sym (one_equal q x t)))

map_cond : {X Y : Type 0} (f : X → Y) (t : Bool) (o : Option X)
    → option_map f (cond t o None) ≡ cond t (option_map f o) None
map_cond f true o = refl
map_cond f false o = refl

if_cond : {X : Type 0} (P Q : X → Type 0) (t : Bool) (o : Option X) → (t ≡ true → (x : X) → P x → Q x) → IfSome o P
    → IfSome (cond t o None) Q
if_cond P Q true None f h = tt
if_cond P Q true (Some x) f h = f refl x h
if_cond P Q false o f h = tt

some_kept : {X : Type 0} (t : Bool) (o : Option X) → is_some (cond t o None) ≡ true → (t ≡ true) × (is_some o ≡ true)
some_kept true o h = (refl, h)
some_kept false o h = absurd (false≢true h)

some_mapped : {X Y : Type 0} (f : X → Y) (o : Option X) → is_some (option_map f o) ≡ is_some o
some_mapped f None = refl
some_mapped f (Some x) = refl

module _ (W : InputStore) (S : StoreView) (plain : IsPlainStore W S) where
  module _ (U : List EntityUID) where
    abbrev test : EntityUID → Bool
    test = is_wanted S.entities U

    abbrev part : InputStore
    part = part_of W test

    wanted_iff : (q : EntityUID) → (test q ≡ true) ↔ IsWanted W U q
    wanted_iff = wanted_by W (ancestry S.entities) (ancestry_plain W S plain) U

    -- A parent of a selected uid is selected.
    next_wanted : (a b : EntityUID) → test a ≡ true → graph W a b ≡ true → test b ≡ true
    next_wanted a b h g =
        let w = (wanted_iff a).0 h in
        (wanted_iff b).1 (record {
          from = w.from;
          asked = w.asked;
          leads = elim w.leads [
            | inl e ↦ inr (subst (λ x. Reach (graph W) x b) (sym e) (reach_edge (graph W) a b g))
            | inr r ↦ inr (reach_trans (graph W) w.from a b r (reach_edge (graph W) a b g))
          ];
        })

    get_part : (q : EntityUID) → finmap.get part.entities q ≡ cond (test q) (finmap.get W.entities q) None
    get_part q = get_kept W.entities test q

    same_parents : (a b : EntityUID) → test a ≡ true → graph part a b ≡ graph W a b
    same_parents a b h = ap (λ o. is_parent_in o b) (get_part a ∙ ap (λ t. cond t (finmap.get W.entities a) None) h)

    path_down : (a b : EntityUID) (xs : List EntityUID) → test a ≡ true → Path (graph W) a xs b
        → Path (graph part) a xs b
    path_down a b [] h p = same_parents a b h ∙ p
    path_down a b (x ∷ xs) h p = (same_parents a x h ∙ p.0, path_down x b xs (next_wanted a x h p.0) p.1)

    reach_up : (a b : EntityUID) → Reach (graph part) a b → Reach (graph W) a b
    reach_up a b r =
        reach_over_reach (graph W) (graph part) (λ x y h. reach_edge (graph W) x y (part_edges W test x y h)) a b r

    get_sliced : (q : EntityUID) → finmap.get (sliced S.entities U) q ≡ cond (test q) (finmap.get S.entities q) None
    get_sliced q = get_kept S.entities test q

    is_plain_part : (k : Bool)
        → IsPlainStore part (record { entities = sliced S.entities U; partial = false; known_plain = k })
    is_plain_part k = record {
      partial = refl;
      holds = λ q. ap (option_map parts_of) (get_sliced q) ∙ map_cond parts_of (test q) (finmap.get S.entities q)
          ∙ ap (λ o. cond (test q) o None) (plain.holds q) ∙ sym (get_part q);
      keyed =
          λ q. subst (λ o. IfSome o (λ e. e.uid ≡ q)) (sym (get_sliced q))
          (if_cond (λ e. e.uid ≡ q) (λ e. e.uid ≡ q) (test q) (finmap.get S.entities q) (λ t e h. h) (plain.keyed q));
      reached =
          λ q. subst (λ o. IfSome o (λ e. (x : EntityUID) → (has_ancestor e x ≡ true) ↔ Reach (graph part) q x))
          (sym (get_sliced q))
          (if_cond (λ e. (x : EntityUID) → (has_ancestor e x ≡ true) ↔ Reach (graph W) q x) (λ e. (x : EntityUID)
          → (has_ancestor e x ≡ true) ↔ Reach (graph part) q x) (test q) (finmap.get S.entities q)
          (λ t e h x. (λ k. let r = (h x).0 k in (r.0, path_down q x r.0 t r.1), λ r. (h x).1 (reach_up q x r)))
          (plain.reached q));
      apart =
          λ q. subst (λ o. IfSome o HasDisjointParents) (sym (get_sliced q))
          (if_cond HasDisjointParents HasDisjointParents (test q) (finmap.get S.entities q) (λ t e h. h) (plain.apart q));
      acyclic = λ q r. plain.acyclic q (reach_up q q r);
    }

    -- The slice of the plain store of an input store is the plain store of its slice.
    pub plain_slice : (N : StoreView) → N.entities ≡ sliced S.entities U → N.partial ≡ false → IsPlainSlice W U N
    plain_slice N is flag =
        record {
          input_store = part;
          is_slice = record { test = test; passes = wanted_iff; entries = refl };
          is_plain =
              subst (IsPlainStore part)
              (sym (λ i. record { entities = is i; partial = flag i; known_plain = N.known_plain }))
              (is_plain_part N.known_plain);
        }

    module _ (V : InputStore) (has : IsPartWith W U V) where
      along : (a b : EntityUID) (xs : List EntityUID) → finmap.contains_key V.entities a ≡ true → Path (graph W) a xs b
          → finmap.contains_key W.entities b ≡ true → finmap.contains_key V.entities b ≡ true
      along a b [] v p k = has.parents a b v p k
      along a b (x ∷ xs) v p k = along x b xs (has.parents a x v p.0 (first_key W x b xs p.1)) p.1 k

      wanted_there : (q : EntityUID) → IsWanted W U q → finmap.contains_key W.entities q ≡ true
          → finmap.contains_key V.entities q ≡ true
      wanted_there q w k = elim w.leads [
        | inl e ↦ subst (λ x. finmap.contains_key V.entities x ≡ true) e
            (has.asked w.from w.asked (subst (λ x. finmap.contains_key W.entities x ≡ true) (sym e) k))
        | inr r ↦ along w.from q r.0 (has.asked w.from w.asked (first_key W w.from q r.0 r.1)) r.1 k
      ]

      -- A part of the input store that contains the requested entities and their parents contains all entities of the
      -- slice.
      pub least_part : (q : EntityUID) → finmap.contains_key (sliced S.entities U) q ≡ true
          → finmap.contains_key V.entities q ≡ true
      least_part q h =
          let k = some_kept (test q) (finmap.get S.entities q) (sym (ap is_some (get_sliced q)) ∙ h) in
          wanted_there q ((wanted_iff q).0 k.0) (sym (ap is_some (plain.holds q))
          ∙ some_mapped parts_of (finmap.get S.entities q) ∙ k.1)

-- What a store knows does not matter for whether it is a slice.
pub known_as : (W : InputStore) (U : List EntityUID) (S : StoreView) (k : Bool) → IsPlainSlice W U S
    → IsPlainSlice W U (record S { known_plain = k })
known_as W U S k p = record {
  input_store = p.input_store;
  is_slice = p.is_slice;
  is_plain = plain_as p.input_store S k p.is_plain;
}
