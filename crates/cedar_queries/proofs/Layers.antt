-- A search, layer by layer. The keys that are reached over a number of edges, and the proof that the paths are shortest.
use Rattle.std.specs.Prelude.{◌≡◌, ◌↔◌, ◌⊎◌, ◌≤◌, ◌<◌, ℕ, zero, suc, Bool, true, false, not, ◌&&◌, ◌||◌, List, [], ◌∷◌}
use Rattle.std.specs.Prelude.{◌++◌, length, Option, Some, None, is_some}
use Rattle.std.proofs.Common.{ap, sym, refl, ◌∙◌, subst, inl, inr, arith}
use Rattle.std.proofs.lemmas.Bool.{false≢true, and_parts}
use Rattle.std.proofs.lemmas.List.{length-append}
use Rattle.cedar_graph.specs.Graph.{Path}
use Rattle.cedar_queries.specs.laws.Searches.{Visits, Leads, EndsSearch}
use Rattle.cedar_queries.proofs.Visiting.{found_stays}

module _ {K : Type 0} (G : K → K → Bool) (from : K) where
  -- Holds if v is reached over fewer than n edges, not counting the last one.
  pub record Within (n : ℕ) (v : K) : Type 0 where
    pub via : List K
    pub path : Path G from via v
    pub few : length via < n

  path_more : (a u v : K) (xs : List K) → Path G a xs u → G u v ≡ true → Path G a (xs ++ u ∷ []) v
  path_more a u v [] p e = (p, e)
  path_more a u v (x ∷ xs) p e = (p.0, path_more x u v xs p.1 e)

  -- One more edge.
  pub within_more : (n : ℕ) (u v : K) → Within n u → G u v ≡ true → Within (suc n) v
  within_more n u v w e = record {
    via = w.via ++ u ∷ [];
    path = path_more from u v w.via w.path e;
    few = omega (arith, length-append w.via (u ∷ []), w.few);
  }

  pub within_first : (n : ℕ) (v : K) → G from v ≡ true → Within (suc n) v
  within_first n v e = record { via = []; path = e; few = omega arith }

  pub within_weaker : (n : ℕ) (v : K) → Within n v → Within (suc n) v
  within_weaker n v w = record { via = w.via; path = w.path; few = omega (arith, w.few) }

  -- A path is one edge, or a path and one more edge.
  record Last (v : K) (n : ℕ) : Type 0 where
    over : K
    path : Within n over
    edge : G over v ≡ true

  last_of : (a v x : K) (xs : List K) → Path G a (x ∷ xs) v
      → (u : K) × (ys : List K) × (Path G a ys u) × (length ys ≡ length xs) × (G u v ≡ true)
  last_of a v x [] p = (x, [], p.0, refl, p.1)
  last_of a v x (y ∷ ys) p = let r = last_of x v y ys p.1 in (r.0, x ∷ r.1, (p.0, r.2), ap suc r.3, r.4)

  last_edge : (n : ℕ) (v : K) (xs : List K) → Path G from xs v → length xs < suc n → (G from v ≡ true) ⊎ Last v n
  last_edge n v [] p l = inl p
  last_edge n v (x ∷ xs) p l = let r = last_of from v x xs p in inr (record {
    over = r.0;
    path = record { via = r.1; path = r.2; few = omega (arith, r.3, l) };
    edge = r.4;
  })

  -- The state of a search. The map has exactly the keys that are reached over at most m + 1 edges. The layer has those
  -- that are not reached over fewer.
  pub record Layered (f : K → Option K) (layer : K → Bool) (m : ℕ) : Type 0 where
    pub sound : (v : K) → is_some (f v) ≡ true → Within (suc m) v
    pub complete : (v : K) → Within (suc m) v → is_some (f v) ≡ true
    pub split : (v : K) → is_some (f v) ≡ true → Within m v ⊎ (layer v ≡ true)
    pub far : (v : K) → layer v ≡ true → Within m v → ⊥
    pub leads : (v : K) → layer v ≡ true → Leads G from f (suc m) v

  pub none_within : (v : K) → Within zero v → ⊥
  none_within v w = omega (arith, w.few)

  leads_stays : (f g : K → Option K) → ((v u : K) → f v ≡ Some u → g v ≡ Some u) → (n : ℕ) (v : K)
      → Leads G from f n v → Leads G from g n v
  leads_stays f g stays zero v l = l
  leads_stays f g stays (suc n) v l = (l.0, stays v l.0 l.1, l.2, leads_stays f g stays n l.0 l.3)

  by_option : (P : Type 0) (o : Option K) → (o ≡ None → P) → ((u : K) → o ≡ Some u → P) → P
  by_option P None a b = a refl
  by_option P (Some u) a b = b u refl

  by_bool : (P : Type 0) (b : Bool) → (b ≡ true → P) → (b ≡ false → P) → P
  by_bool P true a b = a refl
  by_bool P false a b = b refl

  new_value : (g : K → Option K) (v : K) (o : Option K) → g v ≡ o → is_some o ≡ true → (u : K) × (g v ≡ Some u)
  new_value g v (Some u) is h = (u, is)
  new_value g v None is h = absurd (false≢true h)

  is_none : (o : Option K) → is_some o ≡ false → o ≡ None
  is_none None h = refl
  is_none (Some u) h = absurd (false≢true (sym h))

  off : (b : Bool) → not b ≡ true → b ≡ false
  off false h = refl
  off true h = absurd (false≢true h)

  module _ (f : K → Option K) (layer : K → Bool) (next : K → Bool) (g : K → Option K) where
    in_next : ((v : K) → next v ≡ (not (is_some (f v)) && is_some (g v))) → (v : K) → next v ≡ true
        → (is_some (f v) ≡ false) × ((u : K) × (g v ≡ Some u))
    in_next adds v h =
        let p = and_parts (not (is_some (f v))) (is_some (g v)) (sym (adds v) ∙ h) in
        (off (is_some (f v)) p.0, new_value g v (g v) refl p.1)

    next_from : ((v : K) → next v ≡ (not (is_some (f v)) && is_some (g v))) → (v : K) → is_some (f v) ≡ false
        → is_some (g v) ≡ true → next v ≡ true
    next_from adds v p q = adds v ∙ ap (λ b. not b && is_some (g v)) p ∙ q

  -- The first layer.
  pub layers_begin : (g : K → Option K) (layer : K → Bool) (edge : K → K → Bool) (f : K → Option K) (n : K → Bool)
      → ((v : K) → f v ≡ None) → ((v : K) → n v ≡ false) → ((a b : K) → (edge a b ≡ true) ↔ ((from ≡ a) × (G a b ≡ true)))
      → Visits edge f g n layer → Layered g layer zero
  layers_begin g layer edge f n none empty only w = record {
    sound = λ v h.
        let r = new_value g v (g v) refl h in
        let e = (only r.0 v).0 (w.new v r.0 (none v) r.1) in
        within_first zero v (subst (λ a. G a v ≡ true) (sym e.0) e.1);
    complete = λ v x. found v x.via x.path x.few;
    split = λ v h. inr (adds v ∙ h);
    far = λ v h x. none_within v x;
    leads = λ v h.
        let r = new_value g v (g v) refl (sym (adds v) ∙ h) in
        let e = (only r.0 v).0 (w.new v r.0 (none v) r.1) in
        (r.0, r.1, e.1, e.0);
  }
    where
      adds : (v : K) → layer v ≡ is_some (g v)
      adds v =
          w.adds v ∙ (λ i. empty v i || (not (is_some (f v)) && is_some (g v)))
          ∙ ap (λ o. not (is_some o) && is_some (g v)) (none v)

      found : (v : K) (xs : List K) → Path G from xs v → length xs < 1 → is_some (g v) ≡ true
      found v [] p l = w.finds from v ((only from v).1 (refl, p))
      found v (x ∷ xs) p l = absurd (omega arith)

  -- One more layer.
  pub layers_more : (f : K → Option K) (layer : K → Bool) (m : ℕ) (edge : K → K → Bool) (g : K → Option K) (n next : K → Bool)
      → Layered f layer m → ((v : K) → n v ≡ false)
      → ((a b : K) → (edge a b ≡ true) ↔ ((layer a ≡ true) × (G a b ≡ true)))
      → Visits edge f g n next → Layered g next (suc m)
  layers_more f layer m edge g n next w empty only x = record {
    sound = λ v h. by_option (Within (suc (suc m)) v) (f v)
        (λ p.
        let r = new_value g v (g v) refl h in
        let e = (only r.0 v).0 (x.new v r.0 p r.1) in
        within_more (suc m) r.0 v (w.sound r.0 (in_layer r.0 e.0)) e.1)
        (λ u p. within_weaker (suc m) v (w.sound v (ap is_some p)));
    complete = λ v y. complete v y;
    split = λ v h. by_bool (Within (suc m) v ⊎ (next v ≡ true)) (is_some (f v)) (λ p. inl (w.sound v p))
        (λ p. inr (next_from f layer next g adds v p h));
    far = λ v h y. absurd (false≢true (sym (in_next f layer next g adds v h).0 ∙ w.complete v y));
    leads = λ v h.
        let r = in_next f layer next g adds v h in
        let e = (only r.1.0 v).0 (x.new v r.1.0 (is_none (f v) r.0) r.1.1) in
        (r.1.0, r.1.1, e.1, leads_stays f g x.stays (suc m) r.1.0 (w.leads r.1.0 e.0));
  }
    where
      adds : (v : K) → next v ≡ (not (is_some (f v)) && is_some (g v))
      adds v = x.adds v ∙ (λ i. empty v i || (not (is_some (f v)) && is_some (g v)))

      in_layer : (v : K) → layer v ≡ true → is_some (f v) ≡ true
      in_layer v h = ap is_some (w.leads v h).1

      complete : (v : K) → Within (suc (suc m)) v → is_some (g v) ≡ true
      complete v y = elim (last_edge (suc m) v y.via y.path y.few) [
        | inl e ↦ found_stays f g x.stays v (w.complete v (within_first m v e))
        | inr l ↦ elim (w.split l.over (w.complete l.over l.path)) [
          | inl z ↦ found_stays f g x.stays v (w.complete v (within_more m l.over v z l.edge))
          | inr z ↦ x.finds l.over v ((only l.over v).1 (z, l.edge))
        ]
      ]

  -- `to` is in the map, and was not reached over fewer edges.
  pub search_found : (f : K → Option K) (layer : K → Bool) (m : ℕ) (to : K) → Layered f layer m → (Within m to → ⊥)
      → is_some (f to) ≡ true → EndsSearch G from to f (Some m)
  search_found f layer m to w early h = (
    elim (w.split to h) [
      | inl x ↦ absurd (early x)
      | inr x ↦ w.leads to x
    ],
    λ xs p. by_few xs p,
  )
    where
      by_few : (xs : List K) → Path G from xs to → m ≤ length xs
      by_few xs p = no_less m (length xs) (λ l. early (record { via = xs; path = p; few = l }))
        where
          no_less : (a b : ℕ) → (b < a → ⊥) → a ≤ b
          no_less a b h = omega (arith, h)

  -- A key that is not in the map is not reached over that many edges.
  pub not_within : (f : K → Option K) (layer : K → Bool) (m : ℕ) (v : K) → Layered f layer m → is_some (f v) ≡ false
      → Within (suc m) v → ⊥
  not_within f layer m v w h x = false≢true (sym h ∙ w.complete v x)

  -- The layer is empty, and `to` was not reached over fewer edges.
  pub search_ended : (f : K → Option K) (layer : K → Bool) (m : ℕ) (to : K) → Layered f layer m
      → ((v : K) → layer v ≡ false) → (Within m to → ⊥) → EndsSearch G from to f None
  search_ended f layer m to w empty early r = elim (w.split to (first to r.0 r.1)) [
    | inl x ↦ early x
    | inr x ↦ false≢true (sym (empty to) ∙ x)
  ]
    where
      step : (u v : K) → is_some (f u) ≡ true → G u v ≡ true → is_some (f v) ≡ true
      step u v k e = elim (w.split u k) [
        | inl x ↦ w.complete v (within_more m u v x e)
        | inr x ↦ absurd (false≢true (sym (empty u) ∙ x))
      ]

      along : (a v : K) (xs : List K) → is_some (f a) ≡ true → Path G a xs v → is_some (f v) ≡ true
      along a v [] k p = step a v k p
      along a v (x ∷ xs) k p = along x v xs (step a x k p.0) p.1

      first : (v : K) (xs : List K) → Path G from xs v → is_some (f v) ≡ true
      first v [] p = w.complete v (within_first m v p)
      first v (x ∷ xs) p = along x v xs (w.complete x (within_first m x p.0)) p.1
