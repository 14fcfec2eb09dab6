-- Members of lists of references, and results with errors.
use Rattle.std.specs.Set.{is_member}
use Rattle.std.specs.List.{list_any, AllByRecursion}
use Rattle.std.specs.Map.{lookup}
use Rattle.std.specs.Cmp.{IsEquivalence}
use Rattle.std.proofs.lemmas.List.Folds.{list_any_at}
use Rattle.std.specs.Borrow.{Bor}
use Rattle.std.proofs.Common.{◌≡◌, Bool, true, false, ℕ, ◌<◌, ◌+◌, ◌||◌, ◌⊎◌, inl, inr, length, get_or, take, List, []}
use Rattle.std.proofs.Common.{◌∷◌, map, Option, Some, None, Result, Ok, Err, refl, cond, subst, sym, ap, ◌∙◌}
use Rattle.cedar_graph.specs.declared.err.TcError.{TcError}
use Rattle.cedar_graph.specs.declared.err.TcError.TheVariants.{MissingTcEdge, HasCycle, Memory}
use Rattle.cedar_graph.specs.Faults.{MatchFault, UnlessMemory}
use Rattle.std.specs.HashMap.{HashMap}
use Rattle.cedar_graph.specs.Graph.{edge_at, graph_of, IsClosed, HasNoLoop}
use Rattle.cedar_graph.specs.laws.Arcs.{HasNumber}
use Rattle.cedar_graph.proofs.Reaches.{member_more}

pub any_of_map : {X Y : Type 0} (test : Y → Bool) (f : X → Y) (xs : List X)
    → list_any test (map f xs) ≡ list_any (λ x. test (f x)) xs
any_of_map test f [] = refl
any_of_map test f (x ∷ xs) = ap (λ b. test (f x) || b) (any_of_map test f xs)

-- The target of a reference in the list is a member.
pub member_at : {K : Type 0} (eq : K → K → Bool) (refs : List (Bor K)) (i : ℕ) (r : Bor K) (q : K) → i < length refs
    → r ≡ get_or refs i r → eq q r.now ≡ true → is_member eq (map (λ x. x.now) refs) q ≡ true
member_at eq refs i r q within is h = any_of_map (eq q) (λ x. x.now) refs
    ∙ list_any_at (λ x. eq q x.now) refs i r within (ap (λ x. eq q x.now) (sym is) ∙ h)

-- One more reference.
pub refs_more : {K : Type 0} (eq : K → K → Bool) (refs : List (Bor K)) (i : ℕ) (r : Bor K) (q : K) → i < length refs
    → r ≡ get_or refs i r
    → is_member eq (map (λ x. x.now) (take (i + 1) refs)) q ≡ true
    → (is_member eq (map (λ x. x.now) (take i refs)) q ≡ true) ⊎ (eq q r.now ≡ true)
refs_more eq refs i r q within is h =
    elim (member_more (λ x. eq q x.now) refs i r within is (sym (any_of_map (eq q) (λ x. x.now) (take (i + 1) refs))
    ∙ h)) [
      | inl m ↦ inl (any_of_map (eq q) (λ x. x.now) (take i refs) ∙ m)
      | inr e ↦ inr e
    ]

pub MatchFault-weaker : {K : Type 0} (e : TcError K) (P P' : K → K → K → Type 0) (Q Q' : K → Type 0)
    → ((a b c : K) → P a b c → P' a b c) → ((v : K) → Q v → Q' v) → MatchFault e P Q → MatchFault e P' Q'
MatchFault-weaker (MissingTcEdge e) P P' Q Q' f g h = f e.child e.parent e.grandparent h
MatchFault-weaker (HasCycle e) P P' Q Q' f g h = g e.vertex h
MatchFault-weaker Memory P P' Q Q' f g h = tt

found_here : {K X : Type 0} (P : K → X → Type 0) (test : K → Bool) (e : K × X) (es : List (K × X)) (v : X) (b : Bool)
    → test e.0 ≡ b → P e.0 e.1
    → (lookup test es ≡ Some v → (k : K) × (test k ≡ true) × P k v) → cond b (Some e.1) (lookup test es) ≡ Some v
    → (k : K) × (test k ≡ true) × P k v
found_here P test e es v true t p rest h = let same : e.1 ≡ v = cc in (e.0, t, subst (P e.0) same p)
found_here P test e es v false t p rest h = rest h

-- A property of all entries is a property of an entry that is found.
pub found_entry : {K X : Type 0} (P : K → X → Type 0) (test : K → Bool) (es : List (K × X)) (v : X)
    → AllByRecursion (λ e. P e.0 e.1) es → lookup test es ≡ Some v → (k : K) × (test k ≡ true) × P k v
found_entry P test [] v all h = cc
found_entry P test (e ∷ es) v all h = found_here P test e es v (test e.0) refl all.0 (found_entry P test es v all.1) h

module _ {K V S : Type 0} {eq : K → K → Bool} (laws : IsEquivalence eq) (edges : V → K → Bool) (m : HashMap K V S) where
  closed_at : (a b c : K) (o : Option V) → lookup (eq a) m.entries ≡ o
      → AllByRecursion (λ e. (b c : K) → edges e.1 b ≡ true → graph_of eq edges m b c ≡ true
      → edges e.1 c ≡ true) m.entries
      → edge_at edges o b ≡ true → graph_of eq edges m b c ≡ true → edge_at edges o c ≡ true
  closed_at a b c None is all h k = absurd (cc)
  closed_at a b c (Some v) is all h k =
      (found_entry (λ _ v. (b c : K) → edges v b ≡ true → graph_of eq edges m b c ≡ true
      → edges v c ≡ true) (eq a) m.entries v all is).2 b c h k

  -- If the edges of each node are closed, so is the graph.
  pub closed_from_all : AllByRecursion (λ e. (b c : K) → edges e.1 b ≡ true → graph_of eq edges m b c ≡ true
      → edges e.1 c ≡ true) m.entries → IsClosed (graph_of eq edges m)
  closed_from_all all a b c h k = closed_at a b c (lookup (eq a) m.entries) refl all h k

  no_loop_at : ((n : V) (x y : K) → eq x y ≡ true → edges n x ≡ edges n y) → (a : K) (o : Option V)
      → lookup (eq a) m.entries ≡ o → AllByRecursion (λ e. edges e.1 e.0 ≡ false) m.entries → edge_at edges o a ≡ false
  no_loop_at alike a None is all = refl
  no_loop_at alike a (Some v) is all = let p = found_entry (λ k v. edges v k ≡ false) (eq a) m.entries v all is in
      alike v a p.0 p.1 ∙ p.2

  pub no_loop_from_all : ((n : V) (x y : K) → eq x y ≡ true → edges n x ≡ edges n y)
      → AllByRecursion (λ e. edges e.1 e.0 ≡ false) m.entries → HasNoLoop (graph_of eq edges m)
  no_loop_from_all alike all a = no_loop_at alike a (lookup (eq a) m.entries) refl all

module _ {K V S : Type 0} {eq : K → K → Bool} (laws : IsEquivalence eq) (edges : V → K → Bool) (m : HashMap K V S)
    (keys : List K) where
  numbered_at : (q b : K) (o : Option V) → lookup (eq q) m.entries ≡ o
      → AllByRecursion (λ e. (b : K) → edges e.1 b ≡ true → HasNumber eq keys e.0) m.entries
      → edge_at edges o b ≡ true → HasNumber eq keys q
  numbered_at q b None is all h = absurd (cc)
  numbered_at q b (Some v) is all h =
      let f = found_entry (λ k v. (b : K) → edges v b ≡ true → HasNumber eq keys k) (eq q) m.entries v all is in
      let n = f.2 b h in
      (n.0, n.1, n.2, laws.congr q f.0 n.1 f.1 ∙ n.3)

  -- If the keys of all nodes with edges are numbered, so is each key with an edge.
  pub numbered_from_all : AllByRecursion (λ e. (b : K) → edges e.1 b ≡ true → HasNumber eq keys e.0) m.entries
      → (q b : K) → graph_of eq edges m q b ≡ true → HasNumber eq keys q
  numbered_from_all all q b h = numbered_at q b (lookup (eq q) m.entries) refl all h

pub unless_memory : {T K P : Type 0} (r : Result T (TcError K)) → P → UnlessMemory r P
unless_memory (Ok x) p = p
unless_memory (Err (MissingTcEdge e)) p = p
unless_memory (Err (HasCycle e)) p = p
unless_memory (Err Memory) p = tt
