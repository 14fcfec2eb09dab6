-- Reachability after some edges of a graph have changed.
use Rattle.std.specs.Prelude.{◌≡◌, Bool, true, false, List, [], ◌∷◌}
use Rattle.cedar_graph.specs.Graph.{Reach, Path}

module _ {K : Type 0} where
  untouched_path : (G H : K → K → Bool) (A : K → Bool) → ((a b : K) → A a ≡ false → H a b ≡ true → G a b ≡ true)
      → (a b : K) → A a ≡ false → ((u : K) → Reach G a u → A u ≡ false) → (xs : List K) → Path H a xs b → Path G a xs b
  untouched_path G H A same a b out none [] p = same a b out p
  untouched_path G H A same a b out none (x ∷ xs) p =
      let step = same a x out p.0 in
      (step, untouched_path G H A same x b (none x ([], step)) (λ u r. none u (x ∷ r.0, (step, r.1))) xs p.1)

  -- If H has new edges only from keys of A, a key that reaches no key of A in G reaches nothing new in H.
  pub untouched : (G H : K → K → Bool) (A : K → Bool) → ((a b : K) → A a ≡ false → H a b ≡ true → G a b ≡ true)
      → (a b : K) → A a ≡ false → ((u : K) → Reach G a u → A u ≡ false) → Reach H a b → Reach G a b
  untouched G H A same a b out none r = (r.0, untouched_path G H A same a b out none r.0 r.1)

  past_path : (G H : K → K → Bool) (A B : K → Bool)
      → ((a b : K) → A a ≡ false → B b ≡ false → G a b ≡ true → H a b ≡ true)
      → ((a : K) → A a ≡ false → B a ≡ false) → (a b : K) → A a ≡ false → B b ≡ false
      → ((u : K) → Reach G a u → Reach G u b → A u ≡ false) → (xs : List K) → Path G a xs b → Path H a xs b
  past_path G H A B same off a b out end none [] p = same a b out end p
  past_path G H A B same off a b out end none (x ∷ xs) p =
      let inner = none x ([], p.0) (xs, p.1) in (
        same a x out (off x inner) p.0,
        past_path G H A B same off x b inner end (λ u r s. none u (x ∷ r.0, (p.0, r.1)) s) xs p.1,
      )

  -- Suppose that H keeps all edges except those from keys of A and those to keys of B. Then a key outside B that is
  -- reached over no key of A is reached in H.
  pub kept_past : (G H : K → K → Bool) (A B : K → Bool)
      → ((a b : K) → A a ≡ false → B b ≡ false → G a b ≡ true → H a b ≡ true)
      → ((a : K) → A a ≡ false → B a ≡ false) → (a b : K) → A a ≡ false → B b ≡ false
      → ((u : K) → Reach G a u → Reach G u b → A u ≡ false) → Reach G a b → Reach H a b
  kept_past G H A B same off a b out end none r = (r.0, past_path G H A B same off a b out end none r.0 r.1)
