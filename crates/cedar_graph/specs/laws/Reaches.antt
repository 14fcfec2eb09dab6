-- Laws of reachability.
use Rattle.std.specs.Prelude.{◌≡◌, Bool, true, List, [], ◌∷◌, ◌++◌}
use Rattle.cedar_graph.specs.Graph.{Path, Reach, KeepsEdges, AddsOnlyReached, ReachesSame, IsClosure}

-- Holds if the new graph has an edge to every key that was reached over old edges.
abbrev pub HasReached : {K : Type 0} → (old new : K → K → Bool) → Type 0
HasReached {K} old new = (a b : K) → Reach old a b → new a b ≡ true

module _ {K : Type 0} (G : K → K → Bool) where
  path_append : (a b c : K) (xs ys : List K) → Path G a xs b → Path G b ys c → Path G a (xs ++ b ∷ ys) c
  path_append a b c [] ys p q = (p, q)
  path_append a b c (x ∷ xs) ys p q = (p.0, path_append x b c xs ys p.1 q)

  pub reach_edge : (a b : K) → G a b ≡ true → Reach G a b
  reach_edge a b h = ([], h)

  -- Reachability is transitive.
  pub reach_trans : (a b c : K) → Reach G a b → Reach G b c → Reach G a c
  reach_trans a b c p q = (p.0 ++ b ∷ q.0, path_append a b c p.0 q.0 p.1 q.1)

  path_over_reach : (H : K → K → Bool) → AddsOnlyReached G H → (a b : K) (xs : List K) → Path H a xs b → Reach G a b
  path_over_reach H only a b [] p = only a b p
  path_over_reach H only a b (x ∷ xs) p = reach_trans a x b (only a x p.0) (path_over_reach H only x b xs p.1)

  -- If H has only edges to keys reached in G, then everything reached in H is reached in G.
  pub reach_over_reach : (H : K → K → Bool) → AddsOnlyReached G H → (a b : K) → Reach H a b → Reach G a b
  reach_over_reach H only a b p = path_over_reach H only a b p.0 p.1

  path_stays : (H : K → K → Bool) → KeepsEdges G H → (a b : K) (xs : List K) → Path G a xs b → Path H a xs b
  path_stays H stays a b [] p = stays a b p
  path_stays H stays a b (x ∷ xs) p = (stays a x p.0, path_stays H stays x b xs p.1)

  -- A graph that contains G and has only edges to keys reached in G reaches the same keys.
  pub reach_between : (H : K → K → Bool) → KeepsEdges G H → AddsOnlyReached G H → ReachesSame G H
  reach_between H stays only a b = (reach_over_reach H only a b, λ p. (p.0, path_stays H stays a b p.0 p.1))

  -- Closing a closed graph changes nothing.
  pub closed_once : (H : K → K → Bool) → AddsOnlyReached G H → HasReached G H → IsClosure H H
  closed_once H only has a b = (λ h. ([], h), λ p. has a b (reach_over_reach H only a b p))
