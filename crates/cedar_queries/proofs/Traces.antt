-- The way back of a search is a path.
use Rattle.std.specs.Prelude.{◌≡◌, ℕ, zero, suc, Bool, true, List, [], ◌∷◌, ◌++◌, length, Option, Some, is_some, reverse}
use Rattle.std.specs.Option.{unwrap_or}
use Rattle.std.proofs.Common.{ap, sym, refl, ◌∙◌, subst, arith}
use Rattle.std.proofs.lemmas.List.{length-append, append_assoc, reverse-append}
use Rattle.cedar_graph.specs.Graph.{Path}
use Rattle.cedar_queries.specs.laws.Searches.{Leads, LeadsBack, trace}

module _ {K : Type 0} (G : K → K → Bool) (from : K) (f : K → Option K) where
  -- The way back exists.
  pub leads_back : (n : ℕ) (v : K) → Leads G from f n v → LeadsBack f n v
  leads_back zero v l = tt
  leads_back (suc n) v l =
      (ap is_some l.1, subst (LeadsBack f n) (sym (ap (λ o. unwrap_or o v) l.1)) (leads_back n l.0 l.3))

  path_more : (a u v : K) (xs : List K) → Path G a xs u → G u v ≡ true → Path G a (xs ++ u ∷ []) v
  path_more a u v [] p e = (p, e)
  path_more a u v (x ∷ xs) p e = (p.0, path_more x u v xs p.1 e)

  -- Holds if the list is a path over n keys.
  pub record IsWalk (v : K) (n : ℕ) (us : List K) : Type 0 where
    pub between : List K
    pub is : us ≡ from ∷ between ++ v ∷ []
    pub edges : Path G from between v
    pub len : length between ≡ n

  -- The way back is a path.
  pub trace_walk : (n : ℕ) (v : K) → Leads G from f (suc n) v → IsWalk v n (trace f (suc n) v)
  trace_walk zero v l = record {
    between = [];
    is = ap (λ o. unwrap_or o v ∷ v ∷ []) l.1 ∙ ap (λ u. u ∷ v ∷ []) (sym l.3);
    edges = subst (λ u. G u v ≡ true) (sym l.3) l.2;
    len = refl;
  }
  trace_walk (suc n) v l =
      let w = trace_walk n l.0 l.3 in
      record {
        between = w.between ++ l.0 ∷ [];
        is =
            ap (λ o. trace f (suc n) (unwrap_or o v) ++ v ∷ []) l.1
            ∙ ap (λ us. us ++ v ∷ []) w.is;
        edges = path_more from l.0 v w.between w.edges l.2;
        len = omega (arith, length-append w.between (l.0 ∷ []), w.len);
      }

module _ {K : Type 0} (f : K → Option K) where
  -- One step back.
  pub trace_step : (n m : ℕ) (v u : K) → n ≡ suc m → f v ≡ Some u → trace f n v ≡ trace f m u ++ v ∷ []
  trace_step n m v u e is = ap (λ k. trace f k v) e ∙ ap (λ o. trace f m (unwrap_or o v) ++ v ∷ []) is

  pub back_step : (n m : ℕ) (v u : K) → n ≡ suc m → f v ≡ Some u → LeadsBack f n v → LeadsBack f m u
  back_step n m v u e is b = let c = subst (λ k. LeadsBack f k v) e b in
      subst (λ o. LeadsBack f m (unwrap_or o v)) is c.1

  pub back_found : (n m : ℕ) (v : K) → n ≡ suc m → LeadsBack f n v → is_some (f v) ≡ true
  back_found n m v e b = (subst (λ k. LeadsBack f k v) e b).0

  -- The uids that were passed, with one more.
  pub trace_more : (n m : ℕ) (v u : K) (us passed : List K) → us ≡ trace f n v ++ reverse passed → n ≡ suc m
      → f v ≡ Some u → us ≡ trace f m u ++ reverse (passed ++ v ∷ [])
  trace_more n m v u us passed h e is =
      h ∙ ap (λ l. l ++ reverse passed) (trace_step n m v u e is)
      ∙ append_assoc (trace f m u) (v ∷ []) (reverse passed)
      ∙ ap (λ l. trace f m u ++ l) (sym (reverse-append passed (v ∷ [])))

  -- The whole way back was passed.
  pub trace_end : (n : ℕ) (v : K) (us passed : List K) → us ≡ trace f n v ++ reverse passed → n ≡ 0
      → reverse (passed ++ v ∷ []) ≡ us
  trace_end n v us passed h e =
      reverse-append passed (v ∷ []) ∙ sym (h ∙ ap (λ k. trace f k v ++ reverse passed) e)
