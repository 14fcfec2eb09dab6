-- The result of finalizing an edit by edit rules: the results of its steps.
use Rattle.std.specs.Prelude.{◌≡◌, Bool, true, false, not, ◌&&◌, Result, Ok, Err, OnOk, IfErr}
use Rattle.std.proofs.Common.{refl, subst, sym, inl, inr}
use Rattle.std.proofs.lemmas.Bool.{false≢true}
use Rattle.std.specs.Bool.{OnTrue}
use Rattle.std.specs.HashMap.{HashMap}
use Rattle.std.specs.Result.{IsErrAnd}
use Rattle.cedar_graph.specs.Faults.{NamesCycleAt}
use Rattle.cedar_graph.specs.Graph.{graph_of}
use Rattle.cedar_graph.specs.declared.err.TcError.{TcError}
use Rattle.cedar_ids.specs.UidOf.{same_uid}
use Rattle.cedar_ids.specs.declared.entity.EntityUID.{EntityUID}
use Rattle.cedar_entity.specs.ClosureErrors.{refusal_of, ReportsClosureError}
use Rattle.cedar_entity.specs.declared.err.EntitiesError.{EntitiesError}
use Rattle.cedar_entity.specs.declared.node.SharedEntity.{SharedEntity}
use Rattle.cedar_entity_maps.specs.Modes.{Also, IsSound, OneOf, ReportsCycle, ReportsUnsound}
use Rattle.cedar_entity_maps.specs.Plain.{EntityMap}
use Rattle.cedar_entity_maps.specs.EditErrors.{MatchError, NamesOneOf}
use Rattle.cedar_entity_maps.specs.Affected.{IsAcyclicAt, IsEndError, IsRepairIf, SomeRepairIf}
use Rattle.cedar_entity_maps.specs.declared.modes.EditRules.{EditRules}
use Rattle.cedar_entity_maps.specs.laws.Ends.{repairing, Ends}
use Rattle.cedar_entity_maps.specs.laws.EntityMap.{held_map}
use Rattle.cedar_entity_maps.specs.laws.Rows.{also, also_first, one_first, one_more, one_second, where_so}
use Rattle.cedar_entity_maps.proofs.Closures.{cycle_named, cycle_told, named_for, node_edges}
use Rattle.cedar_entity_maps.specs.laws.EditErrors.{none_named, refused_for}

some_made : (repairs : Bool) (affected : EntityUID → Bool) (D N : EntityMap) (P : EntityMap → Type 0)
    → IsRepairIf repairs affected D N → P N → SomeRepairIf repairs affected D P
some_made true affected D N P made p = (N, made, p)
some_made false affected D N P made p = subst P made p

module _ (row : EditRules) (affected : EntityUID → Bool) (D N : EntityMap) where
  -- The entity map after the repair, if there is one, and before the check.
  abbrev RepairedBy : Bool → Type 0
  RepairedBy repairs = Also (repairs && row.refuses_cycles) (IsRepairIf repairs affected D N) (IsAcyclicAt affected D)

  named_so : (a c : Bool) (e : EntitiesError) → MatchError e (λ _. ⊥) (λ t. (c ≡ true) × ReportsUnsound N t)
      → OnTrue (a && not c) (NamesOneOf affected e)
  named_so true true e h = tt
  named_so false c e h = tt
  named_so true false e h = none_named (λ _. ⊥) affected e
      (refused_for (λ t. (false ≡ true) × ReportsUnsound N t) (λ _. ⊥) (λ t k. false≢true k.0) e h)

  -- The result is the result of the check.
  ends_checked : {X : Type 0} (r : Result X EntitiesError) → RepairedBy row.repairs
      → OnOk r (OnTrue row.checks (IsSound N))
      → IfErr r (λ e. MatchError e (λ _. ⊥) (λ t. (row.checks ≡ true) × ReportsUnsound N t)) → Ends row affected D N r
  ends_checked (Ok x) made ok err =
      record { ok = also row.checks (RepairedBy row.repairs) (IsSound N) made ok; err = tt; named = tt }
  ends_checked (Err e) made ok err = record {
    ok = tt;
    err = refused_for (λ t. (row.checks ≡ true) × ReportsUnsound N t) (IsEndError row affected D)
        (λ t k. one_second (row.repairs && row.refuses_cycles) row.checks (ReportsCycle D t)
        (SomeRepairIf row.repairs affected D (λ M. ReportsUnsound M t)) k.0
        (some_made row.repairs affected D N (λ M. ReportsUnsound M t)
        (also_first (row.repairs && row.refuses_cycles) (IsRepairIf row.repairs affected D N) (IsAcyclicAt affected D) made)
        k.1)) e err;
    named = named_so (row.repairs && row.refuses_cycles) row.checks e err;
  }

  -- The entities were repaired.
  pub ends_repaired : {X Y : Type 0} (r : Result X EntitiesError) (y : Y) → row.repairs ≡ true
      → Ends {A = Y} (repairing row.refuses_cycles) affected D N (Ok y)
      → OnOk r (OnTrue row.checks (IsSound N))
      → IfErr r (λ e. MatchError e (λ _. ⊥) (λ t. (row.checks ≡ true) × ReportsUnsound N t)) → Ends row affected D N r
  ends_repaired r y is ends = ends_checked r (subst RepairedBy (sym is) ends.ok)

  -- The repair failed.
  pub ends_refused : {X Y : Type 0} (M : EntityMap) (r : Result X EntitiesError) (e : EntitiesError) → row.repairs ≡ true
      → IsErrAnd r (λ x. x ≡ e) → Ends {A = Y} (repairing row.refuses_cycles) affected D M (Err e)
      → Ends row affected D N r
  ends_refused M (Ok x) e is h ends = absurd h
  ends_refused {X} M (Err x) e is h ends = subst (λ f. Ends {A = X} row affected D N (Err f)) (sym h) (record {
    ok = tt;
    err = refused_for (IsEndError (repairing row.refuses_cycles) affected D) (IsEndError row affected D)
        (λ t k. subst (λ b. OneOf (b && row.refuses_cycles) (ReportsCycle D t) row.checks
        (SomeRepairIf b affected D (λ K. ReportsUnsound K t))) (sym is)
        (one_more row.refuses_cycles row.checks (ReportsCycle D t) (SomeRepairIf true affected D (λ K. ReportsUnsound K t))
        (SomeRepairIf true affected D (λ K. ReportsUnsound K t)) k)) e ends.err;
    named = subst (λ b. OnTrue ((b && row.refuses_cycles) && not row.checks) (NamesOneOf affected e)) (sym is)
        (on_more row.refuses_cycles (not row.checks) (NamesOneOf affected e) ends.named);
  })
    where
      on_more : (a b : Bool) (P : Type 0) → OnTrue (a && true) P → OnTrue (a && b) P
      on_more true true P h = h
      on_more true false P h = tt
      on_more false b P h = tt

-- Nothing is repaired.
pub ends_taken : {X : Type 0} (row : EditRules) (affected : EntityUID → Bool) (D : EntityMap) (r : Result X EntitiesError)
    → row.repairs ≡ false → OnOk r (OnTrue row.checks (IsSound D))
    → IfErr r (λ e. MatchError e (λ _. ⊥) (λ t. (row.checks ≡ true) × ReportsUnsound D t)) → Ends row affected D D r
ends_taken row affected D r is =
    ends_checked row affected D D r (subst (RepairedBy row affected D D) (sym is) refl)

-- The repair reported a cycle.
pub repair_told : {S X : Type 0} (m : HashMap EntityUID SharedEntity S) (asked : Bool) (affected : EntityUID → Bool)
    (N : EntityMap) (r : Result X EntitiesError) (t : TcError EntityUID) → IsErrAnd r (ReportsClosureError t)
    → NamesCycleAt asked affected (graph_of same_uid node_edges m) t
    → Ends (repairing asked) affected (held_map m) N r
repair_told m asked affected N (Ok x) t h k = absurd h
repair_told {S} {X} m asked affected N (Err e) t (inl h) k =
    subst (λ f. Ends {A = X} (repairing asked) affected (held_map m) N (Err f)) (sym h) (record {
      ok = tt;
      err = refused_for (λ u. (asked ≡ true) × ReportsCycle (held_map m) u)
          (IsEndError (repairing asked) affected (held_map m))
          (λ u p. one_first asked false (ReportsCycle (held_map m) u)
          (SomeRepairIf true affected (held_map m) (λ K. ReportsUnsound K u)) p.0 p.1) (refusal_of t)
          (cycle_told m asked affected t k);
      named = where_so (asked && true) (NamesOneOf affected (refusal_of t))
          (named_for affected (refusal_of t) (cycle_named m asked affected t k));
    })
repair_told {S} {X} m asked affected N (Err e) t (inr h) k =
    subst (λ f. Ends {A = X} (repairing asked) affected (held_map m) N (Err f)) (sym h)
    (record { ok = tt; err = tt; named = where_so (asked && true) _ tt })
