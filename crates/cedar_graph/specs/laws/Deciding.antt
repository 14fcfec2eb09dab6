-- A finite graph, closed by a computable test. No function runs this test. It shows that reachability can be decided by
-- examining a list of keys.
use Rattle.std.proofs.Common.{◌≡◌, Bool, true, false, List, [], ◌∷◌, ◌||◌, ◌&&◌, ◌⊎◌, inl, inr, refl, sym, ◌∙◌}
use Rattle.std.specs.Bool.{Decides}
use Rattle.std.specs.List.{list_any}
use Rattle.std.specs.Set.{is_member}
use Rattle.std.proofs.lemmas.Bool.{false≢true, or_cases, or_left, or_right, and_parts, and_from}
use Rattle.cedar_graph.specs.Graph.{Path, Reach, IsClosure, AddsOnlyReached}
use Rattle.cedar_graph.specs.laws.Reaches.{reach_trans}

-- The edges that result from two edges over the key `via`.
abbrev edges_by : {K : Type 0} → (K → K → Bool) → K → K → K → Bool
edges_by G via a b = G a via && G via b

-- The graph together with the edges over the key `via`.
abbrev over : {K : Type 0} → (K → K → Bool) → K → K → K → Bool
over G via a b = G a b || edges_by G via a b

-- The graph, closed over the keys of the list one after another.
pub closure : {K : Type 0} → (K → K → Bool) → List K → K → K → Bool
closure G [] = G
closure G (k ∷ ks) = closure (over G k) ks

or_turn : (a b c : Bool) → (a || (b || c)) ≡ true → ((a || b) || c) ≡ true
or_turn true b c h = refl
or_turn false b c h = h

-- If a graph has only edges to reached keys, so has the graph with the edges over one more key.
reached_over : {K : Type 0} (G : K → K → Bool) (via : K) (H : K → K → Bool) → AddsOnlyReached H G
    → AddsOnlyReached H (over G via)
reached_over G via H only a b h =
    elim (or_cases (G a b) (edges_by G via a b) h) [
      | inl p ↦ only a b p
      | inr p ↦ let q = and_parts (G a via) (G via b) p in reach_trans H a via b (only a via q.0) (only via b q.1)
    ]

-- Holds if equal keys have the same edges.
pub record Respects {K : Type 0} (eq : K → K → Bool) (G : K → K → Bool) : Type 0 where
  pub to : (a b c : K) → eq b c ≡ true → G a b ≡ G a c
  pub from : (a b c : K) → eq a b ≡ true → G a c ≡ G b c

over_respects : {K : Type 0} (eq : K → K → Bool) (G : K → K → Bool) (via : K) → Respects eq G → Respects eq (over G via)
over_respects eq G via r = record {
  to = λ a b c e i. r.to a b c e i || (G a via && r.to via b c e i);
  from = λ a b c e i. r.from a b c e i || (r.from a b via e i && G via c);
}

pub closure_respects : {K : Type 0} (eq : K → K → Bool) (ks : List K) (G : K → K → Bool) → Respects eq G
    → Respects eq (closure G ks)
unfolding closure
closure_respects eq [] G r = r
closure_respects eq (k ∷ ks) G r = closure_respects eq ks (over G k) (over_respects eq G k r)

closure_keeps : {K : Type 0} (ks : List K) (G : K → K → Bool) (a b : K) → G a b ≡ true → closure G ks a b ≡ true
unfolding closure
closure_keeps [] G a b h = h
closure_keeps (k ∷ ks) G a b h = closure_keeps ks (over G k) a b (or_left (G a b) (edges_by G k a b) h)

closure_only : {K : Type 0} (ks : List K) (G H : K → K → Bool) → AddsOnlyReached H G → (a b : K)
    → closure G ks a b ≡ true → Reach H a b
unfolding closure
closure_only [] G H only a b h = only a b h
closure_only (k ∷ ks) G H only a b h = closure_only ks (over G k) H (reached_over G k H only) a b h

-- If a graph is closed over the keys that pass, it is closed over one more key after the edges over it are added.
closed_over : {K : Type 0} (eq : K → K → Bool) (G : K → K → Bool) (via : K) → Respects eq G → (P : K → Bool)
    → ((a b c : K) → P b ≡ true → G a b ≡ true → G b c ≡ true → G a c ≡ true)
    → (a b c : K) → (P b ≡ true) ⊎ (eq b via ≡ true) → over G via a b ≡ true → over G via b c ≡ true
    → over G via a c ≡ true
closed_over eq G via r P closed a b c (inl p) h k =
    elim (or_cases (G a b) (edges_by G via a b) h) [
      | inl ab ↦ elim (or_cases (G b c) (edges_by G via b c) k) [
        | inl bc ↦ or_left (G a c) (edges_by G via a c) (closed a b c p ab bc)
        | inr by ↦ let q = and_parts (G b via) (G via c) by in
            or_right (G a c) (edges_by G via a c) (and_from _ _ (closed a b via p ab q.0) q.1)
      ]
      | inr by ↦ let q = and_parts (G a via) (G via b) by in elim (or_cases (G b c) (edges_by G via b c) k) [
        | inl bc ↦ or_right (G a c) (edges_by G via a c) (and_from _ _ q.0 (closed via b c p q.1 bc))
        | inr next ↦ or_right (G a c) (edges_by G via a c) (and_from _ _ q.0 (and_parts (G b via) (G via c) next).1)
      ]
    ]
closed_over eq G via r P closed a b c (inr e) h k =
    let first : G a via ≡ true = elim (or_cases (G a b) (edges_by G via a b) h) [
      | inl ab ↦ sym (r.to a b via e) ∙ ab
      | inr by ↦ (and_parts (G a via) (G via b) by).0
    ] in
    let second : G via c ≡ true = elim (or_cases (G b c) (edges_by G via b c) k) [
      | inl bc ↦ sym (r.from b via c e) ∙ bc
      | inr by ↦ (and_parts (G b via) (G via c) by).1
    ] in
    or_right (G a c) (edges_by G via a c) (and_from _ _ first second)

-- If a graph is closed over the keys that pass, its closure is closed over these and over the keys of the list.
closure_closed : {K : Type 0} (eq : K → K → Bool) (ks : List K) (G : K → K → Bool) → Respects eq G
    → (P : K → Bool) → ((a b c : K) → P b ≡ true → G a b ≡ true → G b c ≡ true → G a c ≡ true)
    → (a b c : K) → (P b || is_member eq ks b) ≡ true → closure G ks a b ≡ true → closure G ks b c ≡ true
    → closure G ks a c ≡ true
unfolding closure
closure_closed eq [] G r P closed a b c m h k = elim (or_cases (P b) false m) [
  | inl p ↦ closed a b c p h k
  | inr f ↦ absurd (false≢true f)
]
closure_closed eq (v ∷ vs) G r P closed a b c m h k =
    closure_closed eq vs (over G v) (over_respects eq G v r) (λ x. P x || eq x v)
    (λ x y z p. closed_over eq G v r P closed x y z (or_cases (P y) (eq y v) p))
    a b c (or_turn (P b) (eq b v) (is_member eq vs b) m) h k

module _ {K : Type 0} (G : K → K → Bool) (N : K → K → Bool) (closed : (a b c : K) → G a b ≡ true → N b c ≡ true
    → N a c ≡ true) (has : (a b : K) → G a b ≡ true → N a b ≡ true) where
  path_in_closed : (a b : K) (xs : List K) → Path G a xs b → N a b ≡ true
  path_in_closed a b [] p = has a b p
  path_in_closed a b (x ∷ xs) p = closed a x b p.0 (path_in_closed x b xs p.1)

  -- A closed graph that contains another graph has an edge to every key reached in the other graph.
  reach_in_closed : (a b : K) → Reach G a b → N a b ≡ true
  reach_in_closed a b p = path_in_closed a b p.0 p.1

-- A key that reaches another has an edge.
first_edge : {K : Type 0} (G : K → K → Bool) (a b : K) (xs : List K) → Path G a xs b → (c : K) × (G a c ≡ true)
first_edge G a b [] p = (b, p)
first_edge G a b (x ∷ xs) p = (x, p.0)

last_edge : {K : Type 0} (G : K → K → Bool) (a b : K) (xs : List K) → Path G a xs b → (c : K) × (G c b ≡ true)
last_edge G a b [] p = (a, p)
last_edge G a b (x ∷ xs) p = last_edge G x b xs p.1

-- A reached key has an edge that leads to it.
pub reached_from : {K : Type 0} (G : K → K → Bool) (a b : K) → Reach G a b → (c : K) × (G c b ≡ true)
reached_from G a b p = last_edge G a b p.0 p.1

-- Holds if only keys of the list have edges.
abbrev pub LeaveOnly : {K : Type 0} → (K → K → Bool) → List K → (K → K → Bool) → Type 0
LeaveOnly {K} eq keys G = (a b : K) → G a b ≡ true → is_member eq keys a ≡ true

module _ {K : Type 0} (eq : K → K → Bool) (G : K → K → Bool) (respects : Respects eq G) (keys : List K)
    (leave : LeaveOnly eq keys G) where
  -- The computed closure is the closure of the graph, if only keys of the list have edges.
  pub closure_is : IsClosure G (closure G keys)
  closure_is a b = (
    closure_only keys G G (λ x y h. ([], h)) a b,
    reach_in_closed G (closure G keys)
        (λ x y z h k.
        let e = closure_only keys G G (λ s t w. ([], w)) y z k in
        let f = first_edge G y z e.0 e.1 in
        closure_closed eq keys G respects (λ _. false) (λ s t w c p q. absurd (false≢true c)) x y z (leave y f.0 f.1)
        (closure_keeps keys G x y h) k)
        (closure_keeps keys G) a b,
  )

any_found : {X : Type 0} (test : X → Bool) (xs : List X) → list_any test xs ≡ true → (x : X) × (test x ≡ true)
any_found test [] h = absurd (false≢true h)
any_found test (x ∷ xs) h = elim (or_cases (test x) (list_any test xs) h) [
  | inl t ↦ (x, t)
  | inr r ↦ any_found test xs r
]

any_member : {K : Type 0} (eq : K → K → Bool) (test : K → Bool) → ((x y : K) → eq x y ≡ true → test x ≡ test y)
    → (q : K) → test q ≡ true → (ks : List K) → is_member eq ks q ≡ true → list_any test ks ≡ true
any_member eq test same q h [] m = absurd (false≢true m)
any_member eq test same q h (k ∷ ks) m = elim (or_cases (eq q k) (is_member eq ks q) m) [
  | inl e ↦ or_left (test k) (list_any test ks) (sym (same q k e) ∙ h)
  | inr r ↦ or_right (test k) (list_any test ks) (any_member eq test same q h ks r)
]

-- Whether one of the keys reaches itself.
pub has_cycle : {K : Type 0} → (K → K → Bool) → List K → Bool
has_cycle G keys = list_any (λ k. closure G keys k k) keys

pub decides_cycle : {K : Type 0} (eq : K → K → Bool) (G : K → K
    → Bool) (respects : Respects eq G) (keys : List K) (leave : LeaveOnly eq keys G)
    → Decides (has_cycle G keys) ((v : K) × Reach G v v)
unfolding has_cycle
decides_cycle {K} eq G respects keys leave = (
  λ h. let f = any_found (λ k. closure G keys k k) keys h in (f.0, (closure_is eq G respects keys leave f.0 f.0).0 f.1),
  λ c.
      let n : closure G keys c.0 c.0 ≡ true = (closure_is eq G respects keys leave c.0 c.0).1 c.1 in
      let e = first_edge G c.0 c.0 c.1.0 c.1.1 in
      let r = closure_respects eq keys G respects in
      any_member eq (λ k. closure G keys k k) (λ x y q. r.to x x y q ∙ r.from x y y q) c.0 n keys (leave c.0 e.0 e.1),
)
