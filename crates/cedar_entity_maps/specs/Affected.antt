-- The entities that an edit affects, and their state after the edit.
use Rattle.std.specs.Prelude.{◌≡◌, ◌↔◌, ◌⊎◌, Bool, true, false, not, ◌&&◌, ◌||◌, List, filter, Option, Some, None}
use Rattle.std.specs.Bool.{MatchBool, OnFalse}
use Rattle.std.specs.Option.{option_map}
use Rattle.std.specs.List.{list_any}
use Rattle.std.specs.Set.{is_member}
use Rattle.std.specs.FinSet as set
use Rattle.std.specs.FinMap as finmap
use Rattle.cedar_graph.specs.Graph.{Reach, KeepsEdges, AddsOnlyReached, IsClosure, IsTrusted, HasNoCycleAt}
use Rattle.cedar_graph.specs.declared.err.TcError.{TcError}
use Rattle.cedar_ids.specs.UidOf.{same_uid}
use Rattle.cedar_ids.specs.declared.entity.EntityUID.{EntityUID}
use Rattle.cedar_entity.specs.View.{EntityView, unchanged_parts}
use Rattle.cedar_entity_maps.specs.Edits.{uids_of}
use Rattle.cedar_entity_maps.specs.Modes.{ancestry, with_repair, rules_of, Also, IsSound, OneOf, ReportsCycle, ReportsUnsound}
use Rattle.cedar_entity_maps.specs.Plain.{EntityMap}
use Rattle.cedar_entity_maps.specs.InputStore.{InputStore, graph}
use Rattle.cedar_entity_maps.specs.declared.modes.TCComputation.{TCComputation}
use Rattle.cedar_entity_maps.specs.declared.modes.EditRules.{EditRules}

-- Whether an edit of the uids A affects q: q is one of them, or has one of them as an ancestor in D.
abbrev pub is_affected : EntityMap → List EntityUID → EntityUID → Bool
is_affected D A q = is_member same_uid A q || list_any (ancestry D q) A

-- The uids of the list that are not in D: the uids that an addition inserts.
abbrev pub inserted_in : EntityMap → List EntityView → List EntityUID
inserted_in D L = filter (λ u. not (finmap.contains_key D u)) (uids_of L)

-- The uids of the list that are in D: the uids that a removal removes.
abbrev pub removed_from : EntityMap → List EntityUID → List EntityUID
removed_from D U = filter (finmap.contains_key D) U

-- Holds if every entity that is not affected is the same in N as in D.
abbrev pub StaysUnaffected : List EntityUID → EntityMap → EntityMap → Type 0
StaysUnaffected A D N = (q : EntityUID) → is_affected D A q ≡ false → finmap.get N q ≡ finmap.get D q

-- Holds if N is D after a repair of the affected entities.
--
-- - `parts`: N has entities at the uids of D, with the same uid, attributes, tags and parents. A parent is also an
--   indirect ancestor only if it was one in D (see `unchanged_parts`).
-- - `alone`: entities that are not affected do not change.
-- - `stays`, `only`: no ancestor is removed, and each added ancestor is reached in D.
-- - `closed`: suppose that the other entities have all ancestors that they reach, and no affected entity reaches
--   itself. Then the ancestors in N are exactly the uids reached in D.
pub record IsRepairOf (affected : EntityUID → Bool) (D N : EntityMap) : Type 0 where
  pub parts : (q : EntityUID) → option_map unchanged_parts (finmap.get N q) ≡ option_map unchanged_parts (finmap.get D q)
  pub alone : (q : EntityUID) → affected q ≡ false → finmap.get N q ≡ finmap.get D q
  pub stays : KeepsEdges (ancestry D) (ancestry N)
  pub only : AddsOnlyReached (ancestry D) (ancestry N)
  pub closed : IsTrusted affected (ancestry D) → HasNoCycleAt affected (ancestry D) → IsClosure (ancestry D) (ancestry N)

-- Holds if no affected entity reaches itself, provided that the other entities have all ancestors that they reach.
abbrev pub IsAcyclicAt : (EntityUID → Bool) → EntityMap → Type 0
IsAcyclicAt affected D = IsTrusted affected (ancestry D) → HasNoCycleAt affected (ancestry D)

-- N is a repair of D, if the Boolean is true. Otherwise N equals D.
abbrev pub IsRepairIf : Bool → (EntityUID → Bool) → EntityMap → EntityMap → Type 0
IsRepairIf repairs affected D N = MatchBool repairs (IsRepairOf affected D N) (N ≡ D)

-- P of some repair of D, if the Boolean is true. Otherwise P of D.
abbrev pub SomeRepairIf : Bool → (EntityUID → Bool) → EntityMap → (EntityMap → Type 0) → Type 0
SomeRepairIf repairs affected D P = MatchBool repairs ((N : EntityMap) × IsRepairOf affected D N × P N) (P D)

-- Holds if N is the result of finalizing an edit by edit rules r, where D is the entity map after the edit. The
-- affected entities are repaired if r repairs. If r repairs and reports cycles, no affected entity reached itself (see
-- `IsAcyclicAt`). If r checks, N is sound.
abbrev pub IsEnded : EditRules → (EntityUID → Bool) → EntityMap → EntityMap → Type 0
IsEnded r affected D N = Also r.checks (Also (r.repairs && r.refuses_cycles) (IsRepairIf r.repairs affected D N)
    (IsAcyclicAt affected D)) (IsSound N)

-- Holds if t is an error of finalizing an edit by edit rules r, where D is the entity map after the edit. It names a
-- cycle of D, if r repairs and reports cycles. Or it names a fault of the repaired map, if r checks.
abbrev pub IsEndError : EditRules → (EntityUID → Bool) → EntityMap → TcError EntityUID → Type 0
IsEndError r affected D t = OneOf (r.repairs && r.refuses_cycles) (ReportsCycle D t) r.checks
    (SomeRepairIf r.repairs affected D (λ N. ReportsUnsound N t))

-- Holds if N is the result of finalizing an addition or an overwriting, by the edit rules of the mode.
abbrev pub IsFinalized : TCComputation → (EntityUID → Bool) → EntityMap → EntityMap → Type 0
IsFinalized mode affected D N = IsEnded (rules_of mode) affected D N

-- Holds if t is an error of finalizing an addition or an overwriting.
abbrev pub IsFinalizeError : TCComputation → (EntityUID → Bool) → EntityMap → TcError EntityUID → Type 0
IsFinalizeError mode affected D t = IsEndError (rules_of mode) affected D t

-- Holds if N is the result of finalizing a removal, which repairs in every mode.
abbrev pub IsRepaired : TCComputation → (EntityUID → Bool) → EntityMap → EntityMap → Type 0
IsRepaired mode affected D N = IsEnded (with_repair (rules_of mode)) affected D N

-- Holds if t is an error of finalizing a removal.
abbrev pub IsRepairError : TCComputation → (EntityUID → Bool) → EntityMap → TcError EntityUID → Type 0
IsRepairError mode affected D t = IsEndError (with_repair (rules_of mode)) affected D t

-- Whether there is an entity, and w is one of its indirect ancestors.
abbrev pub is_indirect_in : Option EntityView → EntityUID → Bool
is_indirect_in None w = false
is_indirect_in (Some e) w = set.contains e.indirect w

-- Holds if each entity q outside the list A loses exactly its stale indirect ancestors. An indirect ancestor w of q is
-- stale if W has an entity u of the list such that q reaches u, and w is u or is reached from u.
abbrev pub RemovesStale : InputStore → List EntityUID → EntityMap → EntityMap → Type 0
RemovesStale W A D N =
    (q w : EntityUID) → is_member same_uid A q ≡ false
    → (is_indirect_in (finmap.get N q) w ≡ true) ↔ ((is_indirect_in (finmap.get D q) w ≡ true)
    × ((u : EntityUID) → is_member same_uid A u ≡ true → finmap.contains_key W.entities u ≡ true → Reach (graph W) q u
    → (u ≡ w) ⊎ Reach (graph W) u w → ⊥))

-- P, if the mode does not repair after an addition. Otherwise it always holds.
abbrev pub UnlessRepairing : TCComputation → Type 0 → Type 0
UnlessRepairing mode P = OnFalse (rules_of mode).repairs P
