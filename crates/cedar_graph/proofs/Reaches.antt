-- Tests on keys, lookups, and the graph before and after a node is written.
use Rattle.std.proofs.lemmas.List.Folds.{list_any_more}
use Rattle.std.specs.List.{list_any}
use Rattle.std.proofs.Common.{◌≡◌, Bool, true, false, ℕ, ◌<◌, ◌+◌, length, get_or, take, List, [], ◌∷◌, ◌||◌, ◌&&◌, ◌⊎◌}
use Rattle.std.proofs.Common.{inl, inr, Option, Some, None, Result, OnOk, cond, refl, sym, ap, ◌∙◌}
use Rattle.std.specs.Cmp.{IsEquivalence}
use Rattle.std.specs.HashMap.{HashMap, get, keys}
use Rattle.std.specs.Option.{is_some}
use Rattle.std.proofs.lemmas.Map.Made.{is_some-lookup}
use Rattle.std.specs.Map.{lookup}
use Rattle.std.proofs.lemmas.Result.{on_ok_weaker}
use Rattle.std.specs.Set.{is_member}
use Rattle.cedar_graph.specs.Graph.{graph_of, edge_at, Grows, Path, Reach, KeepsNodes}
use Rattle.cedar_graph.specs.Calls.{KeepsAll}
use Rattle.cedar_graph.specs.laws.Writings.{IsAt, IsEdgeTo, Writes}

pub or_cases : (x y : Bool) → (x || y) ≡ true → (x ≡ true) ⊎ (y ≡ true)
or_cases true y h = inl refl
or_cases false y h = inr h

pub and_parts : (x y : Bool) → (x && y) ≡ true → (x ≡ true) × (y ≡ true)
and_parts true y h = (refl, h)
and_parts false y h = absurd (cc)

pub and_from : (x y : Bool) → x ≡ true → y ≡ true → (x && y) ≡ true
and_from x y p q = rw (p, q)

-- Equal keys find the same entry.
pub lookup_alike : {K X : Type 0} {eq : K → K → Bool} → IsEquivalence eq → (a b : K) → eq a b ≡ true
    → (es : List (K × X)) → lookup (eq a) es ≡ lookup (eq b) es
lookup_alike laws a b h [] = refl
lookup_alike laws a b h (e ∷ es) = rw (laws.congr a b e.0 h, lookup_alike laws a b h es)

module _ {K V : Type 0} {eq : K → K → Bool} (laws : IsEquivalence eq) (edges : V → K → Bool)
    (alike : (n : V) (x y : K) → eq x y ≡ true → edges n x ≡ edges n y) where
  -- Equal keys have the same edges.
  pub graph_from : {S : Type 0} (m : HashMap K V S) (a b c : K) → eq a b ≡ true
      → graph_of eq edges m a c ≡ graph_of eq edges m b c
  graph_from m a b c h = ap (λ v. edge_at edges v c) (lookup_alike laws a b h m.entries)

  edge_to : (v : Option V) (b c : K) → eq b c ≡ true → edge_at edges v b ≡ edge_at edges v c
  edge_to None b c h = refl
  edge_to (Some v) b c h = alike v b c h

  pub graph_to : {S : Type 0} (m : HashMap K V S) (a b c : K) → eq b c ≡ true
      → graph_of eq edges m a b ≡ graph_of eq edges m a c
  graph_to m a b c h = edge_to (get eq m a) b c h

-- The members of a list with one more element.
pub member_more : {K : Type 0} (test : K → Bool) (xs : List K) (i : ℕ) (x : K) → i < length xs → x ≡ get_or xs i x
    → list_any test (take (i + 1) xs) ≡ true → (list_any test (take i xs) ≡ true) ⊎ (test x ≡ true)
member_more test xs i x within is h =
    or_cases _ _ (ap (λ y. list_any test (take i xs) || test y) is ∙ sym (list_any_more test xs i x within) ∙ h)

pub KeepsNodes-trans : {K V R S : Type 0} (eq : K → K → Bool) (key : V → K) (rest : V → R) (l m n : HashMap K V S)
    → KeepsNodes eq key rest l m → KeepsNodes eq key rest m n → KeepsNodes eq key rest l n
KeepsNodes-trans eq key rest l m n p q = record {
  keys_stay = q.keys_stay ∙ p.keys_stay;
  node_keys = λ k. q.node_keys k ∙ p.node_keys k;
  rests = λ k. q.rests k ∙ p.rests k;
}

pub KeepsAll-trans : {K V R T S : Type 0} (eq : K → K → Bool) (key : V → K) (rest : V → R) (stays : V → T)
    (l m n : HashMap K V S)
    → KeepsAll eq key rest stays l m → KeepsAll eq key rest stays m n → KeepsAll eq key rest stays l n
KeepsAll-trans eq key rest stays l m n p q = record {
  rests = KeepsNodes-trans eq key rest l m n p.rests q.rests;
  kept = KeepsNodes-trans eq key stays l m n p.kept q.kept;
}

pub KeepsAll-refl : {K V R T S : Type 0} (eq : K → K → Bool) (key : V → K) (rest : V → R) (stays : V → T)
    (m : HashMap K V S) → KeepsAll eq key rest stays m m
KeepsAll-refl eq key rest stays m = record {
  rests = record { keys_stay = refl; node_keys = λ q. refl; rests = λ q. refl };
  kept = record { keys_stay = refl; node_keys = λ q. refl; rests = λ q. refl };
}

found_edge : {K V : Type 0} (edges : V → K → Bool) (v : Option V) (b : K) → edge_at edges v b ≡ true → is_some v ≡ true
found_edge edges None b h = cc
found_edge edges (Some v) b h = refl

-- A key with an edge is in the map.
pub edge_found : {K V S : Type 0} (eq : K → K → Bool) (edges : V → K → Bool) (m : HashMap K V S) (a b : K)
    → graph_of eq edges m a b ≡ true → is_some (get eq m a) ≡ true
edge_found eq edges m a b h = found_edge edges (get eq m a) b h

-- Maps with the same keys have nodes at the same keys.
pub same_found : {K V S : Type 0} (eq : K → K → Bool) (m n : HashMap K V S) (q : K) → keys n ≡ keys m
    → is_some (get eq n q) ≡ is_some (get eq m q)
same_found eq m n q h = is_some-lookup (eq q) n.entries ∙ ap (list_any (eq q)) h ∙ sym (is_some-lookup (eq q) m.entries)

pub both : (b : Bool) → (b ≡ true) ⊎ (b ≡ false)
both true = inl refl
both false = inr refl

pub first_edge : {K : Type 0} (G : K → K → Bool) (a b : K) (xs : List K) → Path G a xs b → (c : K) × (G a c ≡ true)
first_edge G a b [] p = (b, p)
first_edge G a b (x ∷ xs) p = (x, p.0)

-- A key that reaches another is in the map.
pub reach_found : {K V S : Type 0} (eq : K → K → Bool) (edges : V → K → Bool) (m : HashMap K V S) (a b : K)
    → Reach (graph_of eq edges m) a b → is_some (get eq m a) ≡ true
reach_found eq edges m a b p = let e = first_edge (graph_of eq edges m) a b p.0 p.1 in edge_found eq edges m a e.0 e.1

-- The graph after the node at a key is replaced.
module _ {K V S : Type 0} (eq : K → K → Bool) (edges : V → K → Bool) (m n : HashMap K V S) (at : K) (v w : V)
    (updates : (q : K) → get eq n q ≡ cond (eq at q) (Some w) (get eq m q))
    (value : (q : K) → eq at q ≡ true → get eq m q ≡ Some v) where
  here : (a b : K) → eq at a ≡ true → graph_of eq edges n a b ≡ edges w b
  here a b t = ap (λ o. edge_at edges o b) (updates a ∙ ap (λ c. cond c (Some w) (get eq m a)) t)

  before : (a b : K) → eq at a ≡ true → graph_of eq edges m a b ≡ edges v b
  before a b t = ap (λ o. edge_at edges o b) (value a t)

  away : (a b : K) → eq at a ≡ false → graph_of eq edges n a b ≡ graph_of eq edges m a b
  away a b t = ap (λ o. edge_at edges o b) (updates a ∙ ap (λ c. cond c (Some w) (get eq m a)) t)

  written_stays : ((q : K) → edges v q ≡ true → edges w q ≡ true) → (a b : K) → graph_of eq edges m a b ≡ true
      → graph_of eq edges n a b ≡ true
  written_stays f a b h = elim (both (eq at a)) [
    | inl t ↦ here a b t ∙ f b (sym (before a b t) ∙ h)
    | inr t ↦ away a b t ∙ h
  ]

  written_only : (X : K → Type 0) → ((q : K) → edges w q ≡ true → (edges v q ≡ true) ⊎ X q) → (a b : K)
      → graph_of eq edges n a b ≡ true → (graph_of eq edges m a b ≡ true) ⊎ ((eq at a ≡ true) × X b)
  written_only X f a b h = elim (both (eq at a)) [
    | inl t ↦ elim (f b (sym (here a b t) ∙ h)) [ inl o ↦ inl (before a b t ∙ o) | inr x ↦ inr (t, x) ]
    | inr t ↦ inl (sym (away a b t) ∙ h)
  ]

  -- Edges to the keys of a row were added to the node.
  pub written : {T E : Type 0} (row : List K) (r : Result T E) → Grows (edges v) (edges w) (is_member eq row)
      → OnOk r ((q : K) → is_member eq row q ≡ true → edges w q ≡ true)
      → Writes eq edges (IsAt eq at) (IsEdgeTo eq at row) m n r
  written row r grows ok = record {
    alone = λ q out. elim (both (eq at q)) [
      | inl t ↦ absurd (out t)
      | inr t ↦ updates q ∙ ap (λ c. cond c (Some w) (get eq m q)) t
    ];
    stays = written_stays grows.stays;
    only =
        written_only (λ b. is_member eq row b ≡ true)
        (λ q h. or_cases (edges v q) (is_member eq row q) (grows.only q h));
    ok = on_ok_weaker r (λ done a b x found. here a b x.0 ∙ done b x.1) ok;
  }
