-- An input store has exactly one slice for a list of uids.
use Rattle.std.specs.Prelude.{◌≡◌, ◌↔◌, Bool, true, false, cond, ◌||◌, List, [], ◌∷◌, Option, None}
use Rattle.std.proofs.Common.{ap, sym, refl, subst, ◌∙◌, inl, inr}
use Rattle.std.proofs.lemmas.Bool.{false≢true, or_cases, or_left, or_right}
use Rattle.std.specs.List.{list_any}
use Rattle.std.specs.Set.{is_member}
use Rattle.std.specs.FinMap as finmap
use Rattle.cedar_graph.specs.Graph.{Reach}
use Rattle.cedar_ids.specs.UidOf.{same_uid}
use Rattle.cedar_ids.specs.laws.UidOfLaws.{same_uid_decides, same_uid_equiv}
use Rattle.cedar_ids.specs.declared.entity.EntityUID.{EntityUID}
use Rattle.cedar_entity_maps.specs.InputStore.{InputStore, Parts, graph, is_parent_in}
use Rattle.cedar_uid_sets.specs.laws.Sets.{one_equal}
use Rattle.cedar_entity_maps.specs.Modes.{ancestry}
use Rattle.cedar_entity_maps.specs.Plain.{EntityMap}
use Rattle.cedar_entities.specs.laws.Finalized.{reached_list, reached_members}
use Rattle.cedar_slice.specs.Slices.{is_wanted, part_of, IsWanted, IsSliceOf}

any_in : (test : EntityUID → Bool) (U : List EntityUID) (u : EntityUID) → is_member same_uid U u ≡ true → test u ≡ true
    → list_any test U ≡ true
any_in test [] u m h = absurd (false≢true m)
any_in test (x ∷ xs) u m h = elim (or_cases (same_uid u x) (is_member same_uid xs u) m) [
  | inl e ↦ or_left (test x) (list_any test xs) (ap test (sym ((same_uid_decides u x).0 e)) ∙ h)
  | inr r ↦ or_right (test x) (list_any test xs) (any_in test xs u r h)
]

record Found (test : EntityUID → Bool) (U : List EntityUID) : Type 0 where
  at : EntityUID
  member : is_member same_uid U at ≡ true
  passes : test at ≡ true

found_in : (test : EntityUID → Bool) (U : List EntityUID) → list_any test U ≡ true → Found test U
found_in test [] h = absurd (false≢true h)
found_in test (x ∷ xs) h = elim (or_cases (test x) (list_any test xs) h) [
  | inl t ↦ record {
    at = x;
    member = or_left (same_uid x x) (is_member same_uid xs x) (same_uid_equiv.refl x);
    passes =
        t;
  }
  | inr r ↦ let f = found_in test xs r in
      record { at = f.at; member = or_right (same_uid f.at x) (is_member same_uid xs f.at) f.member; passes = f.passes }
]

-- A requested uid is selected.
pub asked_is_wanted : (D : EntityMap) (U : List EntityUID) (q : EntityUID) → is_member same_uid U q ≡ true
    → is_wanted D U q ≡ true
asked_is_wanted D U q m = any_in (λ u. same_uid u q || ancestry D u q) U q m
    (or_left (same_uid q q) (ancestry D q q) (same_uid_equiv.refl q))

-- A test that decides reachability decides the selection of uids.
pub wanted_by : (W : InputStore) (G : EntityUID → EntityUID → Bool)
    → ((a b : EntityUID) → (G a b ≡ true) ↔ Reach (graph W) a b)
    → (U : List EntityUID) (q : EntityUID) → (list_any (λ u. same_uid u q || G u q) U ≡ true) ↔ IsWanted W U q
wanted_by W G says U q = (
  λ h.
      let f = found_in (λ u. same_uid u q || G u q) U h in
      elim (or_cases (same_uid f.at q) (G f.at q) f.passes) [
        | inl e ↦ record { from = f.at; asked = f.member; leads = inl ((same_uid_decides f.at q).0 e) }
        | inr a ↦ record { from = f.at; asked = f.member; leads = inr ((says f.at q).0 a) }
      ],
  λ w. any_in (λ u. same_uid u q || G u q) U w.from w.asked (elim w.leads [
    | inl e ↦ or_left (same_uid w.from q) (G w.from q) ((same_uid_decides w.from q).1 e)
    | inr r ↦ or_right (same_uid w.from q) (G w.from q) ((says w.from q).1 r)
  ]),
)

same_bool : (x y : Bool) → (x ≡ true → y ≡ true) → (y ≡ true → x ≡ true) → x ≡ y
same_bool true y f g = sym (f refl)
same_bool false true f g = g refl
same_bool false false f g = refl

-- Two slices of an input store at the same uids are equal.
pub one_slice : (W : InputStore) (U : List EntityUID) (V X : InputStore) → IsSliceOf W U V → IsSliceOf W U X → V ≡ X
one_slice W U V X v x =
    v.entries
    ∙ ap (part_of W) (λ i q. same_bool (v.test q) (x.test q) (λ h. (x.passes q).1 ((v.passes q).0 h))
    (λ h. (v.passes q).1 ((x.passes q).0 h)) i)
    ∙ sym x.entries

kept_parent : (t : Bool) (o : Option Parts) (b : EntityUID) → is_parent_in (cond t o None) b ≡ true
    → is_parent_in o b ≡ true
kept_parent true o b h = h
kept_parent false o b h = absurd (false≢true h)

-- The edges of a part of an input store are edges of the input store.
pub part_edges : (W : InputStore) (test : EntityUID → Bool) (a b : EntityUID) → graph (part_of W test) a b ≡ true
    → graph W a b ≡ true
part_edges W test a b h =
    kept_parent (test a) (finmap.get W.entities a) b
    (sym (ap (λ o. is_parent_in o b) (finmap.get-retain_keys W.entities test a
    (λ x t. ap test (sym (one_equal a x t))))) ∙ h)

-- The edges of a slice are edges of the input store.
pub slice_edges : (W : InputStore) (U : List EntityUID) (V : InputStore) → IsSliceOf W U V → (a b : EntityUID)
    → graph V a b ≡ true → graph W a b ≡ true
slice_edges W U V v a b h = part_edges W v.test a b (subst (λ X. graph X a b ≡ true) v.entries h)

-- Whether q is one of the uids or is reached from one of them.
reached_test : InputStore → List EntityUID → EntityUID → Bool
reached_test W U q = list_any (λ u. same_uid u q || is_member same_uid (reached_list W u) q) U

-- Every input store has a slice.
pub slice_there : (W : InputStore) (U : List EntityUID) → (V : InputStore) × IsSliceOf W U V
unfolding reached_test
slice_there W U = (
  part_of W (reached_test W U),
  record {
    test = reached_test W U;
    passes = wanted_by W (λ u q. is_member same_uid (reached_list W u) q) (reached_members W) U;
    entries = refl;
  },
)
