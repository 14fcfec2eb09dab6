-- Decidability: whether a uid reaches another in an input store, whether a uid reaches itself, and whether an entity
-- agrees.
use Rattle.std.specs.Prelude.{◌≡◌, Bool, true, false, ◌&&◌, ◌||◌, cond, ◌⊎◌, List, [], ◌∷◌, ◌++◌, map, Option, Some}
use Rattle.std.specs.Prelude.{None}
use Rattle.std.proofs.Common.{ap, sym, refl, ◌∙◌, inl, inr}
use Rattle.std.proofs.Math.Dec.{T}
use Rattle.std.proofs.lemmas.Bool.{false≢true, or_left, or_right, and_parts, and_from}
use Rattle.std.proofs.lemmas.Slice.Eq.{slice_eq-Decides}
use Rattle.std.specs.Bool.{Decides}
use Rattle.std.specs.Option.{is_some}
use Rattle.std.proofs.lemmas.List.Kept.{IsStrictlySortedBy-filter}
use Rattle.std.proofs.lemmas.Map.Made.{is_member-filter}
use Rattle.std.specs.List.{flat_map, filter, list_any, AllByRecursion}
use Rattle.std.specs.List.Sorted.{IsStrictlySortedBy}
use Rattle.std.specs.Cmp.Lexicographic.{pointwise}
use Rattle.std.specs.Ordering.{eq_by_cmp, is_lt}
use Rattle.std.specs.declared.cmp.Ordering.{Ordering}
use Rattle.std.specs.declared.cmp.Ordering.TheVariants.{Less, Equal, Greater}
use Rattle.std.specs.Set.{is_member}
use Rattle.std.specs.FinSet as set
use Rattle.std.specs.FinMap as finmap
use Rattle.std.specs.FinMap.Entries.{is_sorted, below_all, is_some-find}
use Rattle.cedar_graph.specs.Graph.{Reach}
use Rattle.cedar_graph.specs.laws.Deciding.{Respects, LeaveOnly, closure, closure_is, has_cycle, decides_cycle}
use Rattle.cedar_graph.specs.laws.Deciding.{reached_from}
use Rattle.cedar_ids.specs.UidOf.{uid_order, same_uid}
use Rattle.cedar_ids.specs.laws.UidOfLaws.{uid_order_ties, uid_order_total, same_uid_decides, same_uid_equiv}
use Rattle.cedar_ids.specs.declared.entity.EntityUID.{EntityUID}
use Rattle.cedar_entity.specs.Fields.{Fields}
use Rattle.cedar_uid_sets.specs.UidSets.{UidValues}
use Rattle.cedar_uid_sets.specs.laws.Sets.{same_tests, one_equal, contains_listed, is_member-append}
use Rattle.cedar_entity_maps.specs.InputStore.{InputStore, Parts, InputEntity, graph, is_parent_in, IsCyclic, Agrees, AgreesWith}
use Rattle.cedar_entity_maps.specs.InputStore.{AgreesWithFirst, AllAgree, FirstDiffers, first}
use Rattle.cedar_entity.specs.laws.Fields.{field_eq, field_decides}

abbrev Entry : Type 0
Entry = EntityUID × Parts

-- Two Booleans that imply each other are equal.
same_bool : (x y : Bool) → (x ≡ true → y ≡ true) → (y ≡ true → x ≡ true) → x ≡ y
same_bool true y f g = sym (f refl)
same_bool false true f g = g refl
same_bool false false f g = refl

T_parts : (a b : Bool) → T (a && b) → T a × T b
T_parts true b h = (tt, h)
T_parts false b h = absurd h

less_is : (o : Ordering) → T (is_lt o) → o ≡ Less
less_is Less h = refl
less_is Equal h = absurd h
less_is Greater h = absurd h

below_keys : {X : Type 0} (k : EntityUID) (es : List (EntityUID × X)) → T (below_all uid_order k es)
    → AllByRecursion (λ y. uid_order k y ≡ Less) (map (λ e. e.0) es)
below_keys k [] h = tt
below_keys k (e ∷ es) h = let p = T_parts (is_lt (uid_order k e.0)) (below_all uid_order k es) h in
    (less_is (uid_order k e.0) p.0, below_keys k es p.1)

keys_ascend : {X : Type 0} (es : List (EntityUID × X)) → T (is_sorted uid_order es)
    → IsStrictlySortedBy uid_order (map (λ e. e.0) es)
unfolding IsStrictlySortedBy
keys_ascend [] h = tt
keys_ascend (e ∷ es) h = let p = T_parts (below_all uid_order e.0 es) (is_sorted uid_order es) h in
    (below_keys e.0 es p.0, keys_ascend es p.1)

keyed : EntityUID → EntityUID × Unit {0}
keyed k = (k, tt)

keys_keyed : (f : EntityUID → Bool) (ks : List EntityUID) → list_any f (map (λ e. e.0) (map keyed ks)) ≡ list_any f ks
unfolding keyed
keys_keyed f [] = refl
keys_keyed f (k ∷ ks) = ap (λ b. f k || b) (keys_keyed f ks)

-- The uids of a list in ascending order, without duplicates.
pub ascending : List EntityUID → List EntityUID
ascending ks = map (λ e. e.0) (finmap.entries (finmap.from_entries {R = uid_order} (map keyed ks)))

pub ascending_ascends : (ks : List EntityUID) → IsStrictlySortedBy uid_order (ascending ks)
unfolding ascending
ascending_ascends ks = let m = finmap.from_entries {R = uid_order} (map keyed ks) in
    keys_ascend (finmap.entries m) (finmap.entries_sorted m)

-- The members of `ascending` are the members of the list.
pub ascending_members : (ks : List EntityUID) (q : EntityUID)
    → is_member same_uid (ascending ks) q ≡ is_member same_uid ks q
unfolding ascending
ascending_members ks q =
    let m = finmap.from_entries {R = uid_order} (map keyed ks) in
    sym (ap (λ f. list_any (f q) (map (λ e. e.0) (finmap.entries m))) same_tests)
    ∙ sym (is_some-find uid_order q (finmap.entries m))
    ∙ ap is_some (sym (finmap.get-entries m q) ∙ finmap.get-from_entries uid_order_total (map keyed ks) q)
    ∙ is_some-find uid_order q (map keyed ks)
    ∙ keys_keyed (eq_by_cmp uid_order q) ks
    ∙ ap (λ f. list_any (f q) ks) same_tests

-- The items of a set are its members.
items_members : (s : UidValues) (q : EntityUID) → is_member same_uid (set.items s) q ≡ set.contains s q
items_members s q = sym (set.contains-items s q ∙ ap (λ f. list_any (f q) (set.items s)) same_tests)

abbrev pub world_keys : InputStore → List EntityUID
world_keys W = map (λ e. e.0) (finmap.entries W.entities)

abbrev parents_of : List Entry → List EntityUID
parents_of es = flat_map (λ e. set.items e.1.parents) es

found_parent : (t : Bool) (p : Parts) (o : Option Parts) (b : EntityUID) → is_parent_in (cond t (Some p) o) b ≡ true
    → ((t ≡ true) × (set.contains p.parents b ≡ true)) ⊎ (is_parent_in o b ≡ true)
found_parent true p o b h = inl (refl, h)
found_parent false p o b h = inr h

key_held : (es : List Entry) (a b : EntityUID) → is_parent_in (finmap.find uid_order a es) b ≡ true
    → is_member same_uid (map (λ e. e.0) es) a ≡ true
key_held [] a b h = absurd (false≢true h)
key_held (e ∷ es) a b h = elim (found_parent (eq_by_cmp uid_order a e.0) e.1 (finmap.find uid_order a es) b h) [
  | inl t ↦ or_left (same_uid a e.0) (is_member same_uid (map (λ e. e.0) es) a) (uid_order_ties a e.0 ∙ t.0)
  | inr r ↦ or_right (same_uid a e.0) (is_member same_uid (map (λ e. e.0) es) a) (key_held es a b r)
]

parent_held : (es : List Entry) (a b : EntityUID) → is_parent_in (finmap.find uid_order a es) b ≡ true
    → is_member same_uid (parents_of es) b ≡ true
parent_held [] a b h = absurd (false≢true h)
parent_held (e ∷ es) a b h =
    is_member-append (set.items e.1.parents) (parents_of es) b
    ∙ elim (found_parent (eq_by_cmp uid_order a e.0) e.1 (finmap.find uid_order a es) b h) as
    (λ _. (is_member same_uid (set.items e.1.parents) b || is_member same_uid (parents_of es) b) ≡ true) [
      | inl t ↦ or_left (is_member same_uid (set.items e.1.parents) b) (is_member same_uid (parents_of es) b)
          (items_members e.1.parents b ∙ t.1)
      | inr r ↦ or_right (is_member same_uid (set.items e.1.parents) b) (is_member same_uid (parents_of es) b)
          (parent_held es a b r)
    ]

respects : (G : EntityUID → EntityUID → Bool) → Respects same_uid G
respects G = record {
  to = λ a b c e. ap (G a) ((same_uid_decides b c).0 e);
  from = λ a b c e. ap (λ x. G x c) ((same_uid_decides a b).0 e);
}

is_removed_by : (W : InputStore) → LeaveOnly same_uid (world_keys W) (graph W)
is_removed_by W a b h = key_held (finmap.entries W.entities) a b
    (ap (λ o. is_parent_in o b) (sym (finmap.get-entries W.entities a)) ∙ h)

-- Whether some uid reaches itself is decidable.
pub decides_world_cycle : (W : InputStore) → Decides (has_cycle (graph W) (world_keys W)) (IsCyclic W)
decides_world_cycle W = decides_cycle same_uid (graph W) (respects (graph W)) (world_keys W) (is_removed_by W)

-- The uids that a uid reaches, in ascending order.
pub reached_list : InputStore → EntityUID → List EntityUID
reached_list W u = filter (closure (graph W) (world_keys W) u) (ascending (parents_of (finmap.entries W.entities)))

pub reached_ascend : (W : InputStore) (u : EntityUID) → IsStrictlySortedBy uid_order (reached_list W u)
unfolding reached_list
reached_ascend W u = IsStrictlySortedBy-filter uid_order (closure (graph W) (world_keys W) u)
    (ascending (parents_of (finmap.entries W.entities))) (ascending_ascends (parents_of (finmap.entries W.entities)))

pub reached_members : (W : InputStore) (u q : EntityUID) → Decides (is_member same_uid (reached_list W u) q)
    (Reach (graph W) u q)
unfolding reached_list
reached_members W u q =
    let N = closure (graph W) (world_keys W) in
    let all = parents_of (finmap.entries W.entities) in
    let is = closure_is same_uid (graph W) (respects (graph W)) (world_keys W) (is_removed_by W) u q in
    let says = is_member-filter same_uid_equiv (N u) q
    (λ x e. ap (N u) ((same_uid_decides q x).0 e)) (ascending all) in (
      λ h. is.0 (and_parts (is_member same_uid (ascending all) q) (N u q) (sym says ∙ h)).1,
      λ r.
          let c = reached_from (graph W) u q r in
          let e = parent_held (finmap.entries W.entities) c.0 q
          (ap (λ o. is_parent_in o q) (sym (finmap.get-entries W.entities c.0)) ∙ c.1) in
          says ∙ and_from (is_member same_uid (ascending all) q) (N u q) (ascending_members all q ∙ e) (is.1 r),
    )

reached_set : InputStore → EntityUID → UidValues
reached_set W u = set.from_list (reached_list W u)

contains-reached : (W : InputStore) (u q : EntityUID) → Decides (set.contains (reached_set W u) q) (Reach (graph W) u q)
unfolding reached_set
contains-reached W u q =
    let is = reached_members W u q in
    let same = contains_listed (reached_list W u) q in
    (λ h. is.0 (sym same ∙ h), λ r. same ∙ is.1 r)

-- P or its negation.
abbrev pub Settled : Type 0 → Type 0
Settled P = P ⊎ (P → ⊥)

pub settled_by : {P : Type 0} (b : Bool) → Decides b P → Settled P
settled_by true d = inl (d.0 refl)
settled_by false d = inr (λ p. false≢true (d.1 p))

-- If P and Q are equivalent and P is decidable, Q is.
pub settled_as : {P Q : Type 0} → (P → Q) → (Q → P) → Settled P → Settled Q
settled_as f g (inl p) = inl (f p)
settled_as f g (inr n) = inr (λ q. n (g q))

settled_three : {P Q R : Type 0} → Settled P → Settled Q → Settled R → Settled (P × Q × R)
settled_three (inl p) (inl q) (inl r) = inl (p, q, r)
settled_three (inl p) (inl q) (inr n) = inr (λ x. n x.2)
settled_three (inl p) (inr n) c = inr (λ x. n x.1)
settled_three (inr n) b c = inr (λ x. n x.0)

fields_settled : (fs gs : Fields) → Settled (fs ≡ gs)
fields_settled fs gs = settled_by (pointwise field_eq fs gs)
    (slice_eq-Decides field_decides fs gs (pointwise field_eq fs gs) refl)

sets_settled : (s t : UidValues) → Settled (s ≡ t)
sets_settled s t =
    settled_as
    (λ (e : set.items s ≡ set.items t). set.same_set uid_order_total one_equal s t (λ q. sym (items_members s q)
    ∙ ap (λ l. is_member same_uid l q) e ∙ items_members t q))
    (λ e. ap set.items e)
    (settled_by (pointwise same_uid (set.items s) (set.items t))
    (slice_eq-Decides same_uid_decides (set.items s) (set.items t)
    (pointwise same_uid (set.items s) (set.items t)) refl))

parts_settled : (p r : Parts) → Settled (p ≡ r)
parts_settled p r =
    settled_as
    (λ (e : (p.attrs ≡ r.attrs) × (p.tags ≡ r.tags) × (p.parents ≡ r.parents)) i. record {
      attrs = e.0 i;
      tags =
          e.1 i;
      parents = e.2 i;
    })
    (λ e. (ap (λ (x : Parts). x.attrs) e, ap (λ (x : Parts). x.tags) e, ap (λ (x : Parts). x.parents) e))
    (settled_three (fields_settled p.attrs r.attrs) (fields_settled p.tags r.tags) (sets_settled p.parents r.parents))

first_settled : (o : Option Parts) (g : InputEntity) → Settled (AgreesWithFirst o g)
first_settled None g = inl tt
first_settled (Some p) g = parts_settled p g.parts

with_settled : (W : InputStore) (L : List InputEntity) (o : Option Parts) (g : InputEntity) → Settled (AgreesWith W L o g)
with_settled W L (Some p) g =
    settled_three (fields_settled p.attrs g.parts.attrs) (fields_settled p.tags g.parts.tags)
    (settled_as
    (λ (e : g.parts.parents ≡ reached_set W g.uid) q.
    let same = ap (λ s. set.contains s q) e in
    let is = contains-reached W g.uid q in
    (λ h. is.0 (sym same ∙ h), λ r. same ∙ is.1 r))
    (λ all. set.same_set uid_order_total one_equal g.parts.parents (reached_set W g.uid) (λ q.
    let is = contains-reached W g.uid q in
    same_bool (set.contains g.parts.parents q) (set.contains (reached_set W g.uid) q) (λ h. is.1 ((all q).0 h))
    (λ h. (all q).1 (is.0 h))))
    (sets_settled g.parts.parents (reached_set W g.uid)))
with_settled W L None g = first_settled (first L g.uid) g

-- Whether an entity agrees with the existing one is decidable.
pub agrees_settled : (W : InputStore) (L : List InputEntity) (g : InputEntity) → Settled (Agrees W L g)
agrees_settled W L g = with_settled W L (finmap.get W.entities g.uid) g

-- The first element of a list for which P does not hold.
pub record FirstWithout {X : Type 0} (P : X → Type 0) (xs : List X) : Type 0 where
  pub before : List X
  pub at : X
  pub after : List X
  pub place : xs ≡ before ++ at ∷ after
  pub holds : AllByRecursion P before
  pub fails : P at → ⊥

one_further : {X : Type 0} (P : X → Type 0) (x : X) (xs : List X) → P x → FirstWithout P xs → FirstWithout P (x ∷ xs)
one_further P x xs p f = record {
  before = x ∷ f.before;
  at = f.at;
  after = f.after;
  place =
      ap (λ l. x ∷ l) f.place;
  holds = (p, f.holds);
  fails = f.fails;
}

-- P holds for all elements of a list, or there is a first one for which it does not hold.
pub all_or_first : {X : Type 0} (P : X → Type 0) → ((x : X) → Settled (P x)) → (xs : List X) → AllByRecursion P xs
    ⊎ FirstWithout P xs
all_or_first P settle [] = inl tt
all_or_first P settle (x ∷ xs) = elim (settle x) [
  | inr n ↦ inr (record { before = []; at = x; after = xs; place = refl; holds = tt; fails = n })
  | inl p ↦ elim (all_or_first P settle xs) [
    | inl all ↦ inl (p, all)
    | inr f ↦ inr (one_further P x xs p f)
  ]
]

-- Each entity of the list agrees, or there is a first one that differs.
pub agree_or_differs : (W : InputStore) (L : List InputEntity) → AllAgree W L ⊎ ((u : EntityUID) × FirstDiffers W L u)
agree_or_differs W L = elim (all_or_first (Agrees W L) (agrees_settled W L) L) [
  | inl all ↦ inl all
  | inr f ↦ inr (
    f.at.uid,
    record {
      before = f.before;
      at = f.at;
      after = f.after;
      place = f.place;
      agree =
          f.holds;
      differs = f.fails;
      uid = refl;
    },
  )
]
