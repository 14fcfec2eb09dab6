-- The effect of closing and repairing a graph that must not have a cycle.
use Rattle.std.specs.Cmp.{IsEquivalence}
use Rattle.std.specs.HashMap.{HashMap, get}
use Rattle.std.specs.List.{IsDistinct}
use Rattle.std.specs.Set.{is_member}
use Rattle.std.proofs.lemmas.Bool.{false≢true}
use Rattle.std.proofs.Common.{◌≡◌, Bool, true, false, ℕ, List, [], ◌∷◌, Result, Ok, Err, refl, subst, sym}
use Rattle.std.proofs.Common.{◌∙◌, ◌&&◌, ap}
use Rattle.cedar_components.specs.Reach.{Walk, Leads, HasPath}
use Rattle.cedar_graph.specs.Calls.{ClosesDag, OnlyAdds, RepairsDag}
use Rattle.cedar_graph.specs.Faults.{MatchFault}
use Rattle.cedar_graph.specs.Graph.{graph_of, HasNoCycleAt, HasNoLoop, IsTrusted, Reach}
use Rattle.cedar_graph.specs.declared.arcs.FixReading.{FixReading}
use Rattle.cedar_graph.specs.declared.err.TcError.{TcError}
use Rattle.cedar_graph.specs.declared.err.TcError.TheVariants.{Memory}
use Rattle.cedar_graph.specs.laws.Arcs.{AreSameEdges, HasNumberBelow, near_graph}
use Rattle.cedar_graph.specs.laws.Reaches.{HasReached, reach_edge}
use Rattle.cedar_graph.specs.laws.Readings.{IsArc}
use Rattle.cedar_graph.specs.laws.Writings.{IsKeyOfLoop, NoneLoops}
use Rattle.cedar_graph.proofs.Keyed.{near_reach, number_same, reach_alike, reach_of_near, row_complete, row_sound}
use Rattle.cedar_graph.proofs.Members.{MatchFault-weaker}
use Rattle.cedar_graph.proofs.Reaches.{graph_to, reach_found}

module _ (E : ℕ → ℕ → Type 0) where
  last_arc : (a z b : ℕ) (xs : List ℕ) → E a z → Walk E z xs b → (w : ℕ) × E w b
  last_arc a z b [] e w = (a, subst (λ v. E a v) w e)
  last_arc a z b (u ∷ us) e w = last_arc z u b us w.0 w.1

  -- An arc leads to a number that reaches itself.
  pub arc_back : (n : ℕ) → HasPath E n n → (w : ℕ) × E w n
  unfolding Leads
  arc_back n g = last_arc n g.0 n g.2.0 g.1 g.2.1

module _ {K V S : Type 0} {eq : K → K → Bool} (laws : IsEquivalence eq) (edges : V → K → Bool)
    (alike : (n : V) (x y : K) → eq x y ≡ true → edges n x ≡ edges n y) (old : HashMap K V S) where
  adds_none : OnlyAdds (graph_of eq edges old) (graph_of eq edges old)
  adds_none = record { stays = λ a b h. h; only = λ a b h. reach_edge (graph_of eq edges old) a b h }

  -- The key of a number that reaches itself lies on a cycle.
  looped : {F H : Type 0} (read : FixReading K F H)
      → AreSameEdges eq (graph_of eq edges old) read.reading.keys.keys (IsArc read.reading)
      → (q : K) → IsKeyOfLoop eq read q → Reach (graph_of eq edges old) q q
  looped read same q l =
      row_sound eq (graph_of eq edges old) read.reading.keys.keys (IsArc read.reading) same
      (graph_to laws edges alike old) l.0 q q (l.1, l.3, l.4, (l.0, l.1, l.5, l.3, laws.symm q l.1 ∙ l.4))

  -- An allocation failed.
  pub dag_in_part : {T : Type 0} (new : HashMap K V S) → OnlyAdds (graph_of eq edges old) (graph_of eq edges new)
      → (r : Result T (TcError K)) → r ≡ Err Memory → ClosesDag eq edges old new r
  dag_in_part new adds r is =
      subst (λ v. ClosesDag eq edges old new v) (sym is)
      (record { adds = adds; closed = tt; ok = tt; err = tt; stays = tt })

  -- An allocation failed before anything was written.
  pub dag_unwritten : {T : Type 0} (r : Result T (TcError K)) → r ≡ Err Memory → ClosesDag eq edges old old r
  dag_unwritten r is = dag_in_part old adds_none r is

  -- A cycle was reported.
  pub dag_refused : {T F H : Type 0} (read : FixReading K F H)
      → AreSameEdges eq (graph_of eq edges old) read.reading.keys.keys (IsArc read.reading)
      → (e : TcError K) → MatchFault e (λ _ _ _. ⊥) (IsKeyOfLoop eq read)
      → ClosesDag {T = T} eq edges old old (Err e)
  dag_refused read same e h = record {
    adds = adds_none;
    closed = tt;
    ok = tt;
    err = MatchFault-weaker e _ _ _ _ (λ _ _ _ no. no) (λ q l. let p = looped read same q l in
        (refl, reach_found eq edges old q q p, p)) h;
    stays = MatchFault-weaker e _ _ _ _ (λ _ _ _ no. no) (λ _ _. refl) h;
  }

  -- There is an edge to every reached key.
  pub dag_whole : {T : Type 0} (new : HashMap K V S) → OnlyAdds (graph_of eq edges old) (graph_of eq edges new)
      → HasReached (graph_of eq edges old) (graph_of eq edges new) → HasNoLoop (graph_of eq edges new) → (t : T)
      → ClosesDag {T = T} eq edges old new (Ok t)
  dag_whole new adds has free t = record {
    adds = adds;
    closed = λ a b. (adds.only a b, has a b);
    ok = λ a p. false≢true (sym (free a) ∙ has a a p);
    err = tt;
    stays = tt;
  }

  module _ (fix : K → Bool) where
    -- An allocation failed.
    pub repaired_in_part : {T : Type 0} (new : HashMap K V S)
        → ((q : K) → fix q ≡ false → get eq new q ≡ get eq old q)
        → OnlyAdds (graph_of eq edges old) (graph_of eq edges new)
        → (r : Result T (TcError K)) → r ≡ Err Memory → RepairsDag eq edges fix old new r
    repaired_in_part new alone adds r is =
        subst (λ v. RepairsDag eq edges fix old new v) (sym is)
        (record { alone = alone; adds = adds; closed = tt; ok = tt; err = tt; stays = tt })

    -- An allocation failed before anything was written.
    pub repaired_unwritten : {T : Type 0} (r : Result T (TcError K)) → r ≡ Err Memory
        → RepairsDag eq edges fix old old r
    repaired_unwritten r is = repaired_in_part old (λ _ _. refl) adds_none r is

    module _ {F H : Type 0} (read : FixReading K F H) (ks : List K)
        (same : AreSameEdges eq (near_graph eq (graph_of eq edges old) ks) read.reading.keys.keys
        (IsArc read.reading)) where
      -- The key of a number that reaches itself over edges of the keys to fix and of their targets lies on a cycle.
      looped_near : (q : K) → IsKeyOfLoop eq read q → Reach (graph_of eq edges old) q q
      looped_near q l =
          reach_of_near eq (graph_of eq edges old) ks q q
          (row_sound eq (near_graph eq (graph_of eq edges old) ks) read.reading.keys.keys (IsArc read.reading) same
          (λ x y z e. ap (λ v. is_member eq ks x && v) (graph_to laws edges alike old x y z e)) l.0 q q (l.1, l.3, l.4, (l.0, l.1, l.5, l.3, laws.symm q l.1 ∙ l.4)))

      -- A cycle was reported.
      pub repair_refused : {T : Type 0} → ((q : K) → IsKeyOfLoop eq read q → fix q ≡ true)
          → (e : TcError K) → MatchFault e (λ _ _ _. ⊥) (IsKeyOfLoop eq read)
          → RepairsDag {T = T} eq edges fix old old (Err e)
      repair_refused fixes e h = record {
        alone = λ _ _. refl;
        adds = adds_none;
        closed = tt;
        ok = tt;
        err = MatchFault-weaker e _ _ _ _ (λ _ _ _ no. no) (λ q l. (refl, fixes q l, looped_near q l)) h;
        stays = MatchFault-weaker e _ _ _ _ (λ _ _ _ no. no) (λ _ _. refl) h;
      }

      -- If no number to fix reaches itself, no key to fix lies on a cycle, provided that the other nodes are closed.
      pub none_at : IsDistinct eq read.reading.keys.keys
          → ((q : K) → fix q ≡ true → HasNumberBelow eq read.fixed read.reading.keys.keys q)
          → ((x u : K) → fix x ≡ true → graph_of eq edges old x u ≡ true → is_member eq ks u ≡ true)
          → ((x : K) → fix x ≡ true → is_member eq ks x ≡ true)
          → NoneLoops (IsArc read.reading) read.fixed
          → IsTrusted fix (graph_of eq edges old) → HasNoCycleAt fix (graph_of eq edges old)
      none_at unique all near near_fixed none trusted a t p =
          let G = graph_of eq edges old in
          let H = near_graph eq G ks in
          let keys = read.reading.keys.keys in
          let E = IsArc read.reading in
          let n = all a t in
          let q = near_reach eq G ks fix near near_fixed trusted a a t p in
          let r = row_complete eq H keys E same n.0 n.1 a n.3 (reach_alike eq H keys E same a n.1 a n.4 q) in
          let is : r.0 ≡ n.0 = number_same laws keys unique r.0 n.0 r.1 n.1 r.3 n.3
          (laws.congr r.1 a n.1 (laws.symm r.1 a ∙ r.4) ∙ n.4) in
          let goes : HasPath E n.0 n.0 = subst (λ v. HasPath E n.0 v) is r.2 in
          let w = arc_back E n.0 goes in
          none w.0 n.0 n.2 w.1 goes

    -- There is an edge to every reached key, provided that the other nodes are closed.
    pub repair_whole : {T : Type 0} (new : HashMap K V S)
        → ((q : K) → fix q ≡ false → get eq new q ≡ get eq old q)
        → OnlyAdds (graph_of eq edges old) (graph_of eq edges new)
        → (IsTrusted fix (graph_of eq edges old) → HasReached (graph_of eq edges old) (graph_of eq edges new))
        → (IsTrusted fix (graph_of eq edges old) → HasNoCycleAt fix (graph_of eq edges old))
        → (t : T) → RepairsDag {T = T} eq edges fix old new (Ok t)
    repair_whole new alone adds has none t = record {
      alone = alone;
      adds = adds;
      closed = λ trusted a b. (adds.only a b, has trusted a b);
      ok = none;
      err = tt;
      stays = tt;
    }
