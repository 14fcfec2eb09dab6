-- The paths that a search finds, in the graph of all parents.
use Rattle.std.specs.Prelude.{◌≡◌, ◌↔◌, ◌+◌, ◌≤◌, ℕ, zero, suc, Bool, true, false, IsTrue, not, ◌||◌, List, [], ◌∷◌, ◌++◌}
use Rattle.std.specs.Prelude.{length, Option, Some, None, is_some}
use Rattle.std.proofs.Common.{ap, sym, refl, subst, ◌∙◌, arith}
use Rattle.std.proofs.lemmas.Bool.{false≢true, and_parts, and_from, or_left, or_right}
use Rattle.std.proofs.lemmas.List.{length-append}
use Rattle.cedar_graph.specs.Graph.{Path, Reach}
use Rattle.cedar_ids.specs.UidOf.{same_uid}
use Rattle.cedar_ids.specs.laws.UidOfLaws.{same_uid_equiv}
use Rattle.cedar_ids.specs.declared.entity.EntityUID.{EntityUID}
use Rattle.cedar_entity_maps.specs.Modes.{ancestry}
use Rattle.cedar_entity_maps.specs.Plain.{EntityMap}
use Rattle.cedar_entity_maps.specs.laws.Indexes.{IsPlainHeld}
use Rattle.cedar_queries.specs.Queries.{IsShortestPath, parent_graph}
use Rattle.cedar_queries.specs.laws.PlainQueries.{reached_is_ancestor}
use Rattle.cedar_queries.specs.laws.Searches.{EndsSearch, Leads, LeadsBack, can_lead, search_graph, trace}
use Rattle.cedar_queries.proofs.Traces.{IsWalk, leads_back, trace_walk}

-- In a plain map the uids that are reached over parents are the ancestors.
pub held_reached : (D : EntityMap) → IsPlainHeld D → (a b : EntityUID)
    → Reach (parent_graph D) a b ↔ (ancestry D a b ≡ true)
held_reached D p a b =
    reached_is_ancestor p.0 (record { entities = D; partial = p.0.partial; known_plain = true }) p.1 a b

module _ (D : EntityMap) (plain : Bool) (holds : IsTrue plain → IsPlainHeld D) (to : EntityUID) where
  leads_at : (b : Bool) (x : EntityUID) → plain ≡ b → Reach (parent_graph D) x to
      → (not b || (same_uid x to || ancestry D x to)) ≡ true
  leads_at false x is r = refl
  leads_at true x is r = or_right (same_uid x to) (ancestry D x to) ((held_reached D (holds is) x to).0 r)

  may_end : (b : Bool) → (not b || (same_uid to to || ancestry D to to)) ≡ true
  may_end false = refl
  may_end true = or_left (same_uid to to) (ancestry D to to) (same_uid_equiv.refl to)

  -- A search follows each path to `to`.
  path_followed : (a : EntityUID) (xs : List EntityUID) → Path (parent_graph D) a xs to
      → Path (search_graph D plain to) a xs to
  path_followed a [] p = and_from (parent_graph D a to) (can_lead D plain to to) p (may_end plain)
  path_followed a (x ∷ xs) p = (
    and_from (parent_graph D a x) (can_lead D plain to x) p.0 (leads_at plain x refl (xs, p.1)),
    path_followed x xs p.1,
  )

  path_whole : (a b : EntityUID) (xs : List EntityUID) → Path (search_graph D plain to) a xs b
      → Path (parent_graph D) a xs b
  path_whole a b [] p = (and_parts (parent_graph D a b) (can_lead D plain to b) p).0
  path_whole a b (x ∷ xs) p =
      ((and_parts (parent_graph D a x) (can_lead D plain to x) p.0).0, path_whole x b xs p.1)

  leads_whole : (from : EntityUID) (f : EntityUID → Option EntityUID) (n : ℕ) (v : EntityUID)
      → Leads (search_graph D plain to) from f n v → Leads (parent_graph D) from f n v
  leads_whole from f zero v l = l
  leads_whole from f (suc n) v l =
      (l.0, l.1, (and_parts (parent_graph D l.0 v) (can_lead D plain to v) l.2).0, leads_whole from f n l.0 l.3)

  -- The result of a search holds in the graph of all parents.
  pub search_whole : (from : EntityUID) (f : EntityUID → Option EntityUID) (o : Option ℕ)
      → EndsSearch (search_graph D plain to) from to f o → EndsSearch (parent_graph D) from to f o
  search_whole from f None e = λ r. e (r.0, path_followed from r.0 r.1)
  search_whole from f (Some n) e = (leads_whole from f (suc n) to e.0, λ xs p. e.1 xs (path_followed from xs p))

-- The way back of a search is a shortest path.
pub traced_path : (D : EntityMap) (from to : EntityUID) (f : EntityUID → Option EntityUID) (n : ℕ)
    → EndsSearch (parent_graph D) from to f (Some n) → IsShortestPath D from to (trace f (suc n) to)
traced_path D from to f n e =
    let w : IsWalk (parent_graph D) from f to n (trace f (suc n) to) = trace_walk (parent_graph D) from f n to e.0 in
    record {
      path = record { between = w.between; is = w.is; edges = w.edges };
      shortest =
          λ vs p. no_longer (trace f (suc n) to) w.between p.between vs w.is p.is w.len (e.1 p.between p.edges);
    }
  where
    long : (us xs : List EntityUID) → us ≡ from ∷ xs ++ to ∷ [] → length us ≡ length xs + 2
    long us xs is = omega (arith, ap length is, length-append xs (to ∷ []))

    no_longer : (us xs ys vs : List EntityUID) → us ≡ from ∷ xs ++ to ∷ [] → vs ≡ from ∷ ys ++ to ∷ []
        → length xs ≡ n → n ≤ length ys → length us ≤ length vs
    no_longer us xs ys vs is too len few = omega (arith, long us xs is, long vs ys too)

-- The way back of a search exists.
pub found_back : (G : EntityUID → EntityUID → Bool) (from to : EntityUID) (f : EntityUID → Option EntityUID)
    (o : Option ℕ) (n : ℕ) → EndsSearch G from to f o → o ≡ Some n → LeadsBack f (suc n) to
found_back G from to f o n e is = leads_back G from f (suc n) to (subst (EndsSearch G from to f) is e).0

module _ (D : EntityMap) (plain : Bool) (holds : IsTrue plain → IsPlainHeld D) (from first to : EntityUID)
    (same : first ≡ from) (f : EntityUID → Option EntityUID) (o : Option ℕ)
    (ends : EndsSearch (search_graph D plain to) first to f o) where
  ended : EndsSearch (parent_graph D) from to f o
  ended = search_whole D plain holds to from f o (subst (λ u. EndsSearch (search_graph D plain to) u to f o) same ends)

  -- The way back is a shortest path.
  pub path_found : (n : ℕ) (us : List EntityUID) → o ≡ Some n → us ≡ trace f (suc n) to → IsShortestPath D from to us
  path_found n us is traced =
      subst (IsShortestPath D from to) (sym traced)
      (traced_path D from to f n (subst (EndsSearch (parent_graph D) from to f) is ended))

  -- There is no path.
  pub path_none : o ≡ None → Reach (parent_graph D) from to → ⊥
  path_none is = subst (EndsSearch (parent_graph D) from to f) is ended

  -- The search finds `to` exactly if it is reached.
  pub found_reached : (b : Bool) → b ≡ is_some o → IsTrue b ↔ Reach (parent_graph D) from to
  found_reached b is = by_found o refl
    where
      by_found : (p : Option ℕ) → o ≡ p → IsTrue b ↔ Reach (parent_graph D) from to
      by_found None e = (
        λ t. absurd (false≢true (sym (is ∙ ap is_some e) ∙ t)),
        λ r. absurd (path_none e r),
      )
      by_found (Some n) e =
          let p = path_found n (trace f (suc n) to) e refl in
          (λ t. (p.path.between, p.path.edges), λ r. is ∙ ap is_some e)
