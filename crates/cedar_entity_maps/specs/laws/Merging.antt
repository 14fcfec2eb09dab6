-- A repair that gives entities the ancestors of their ancestors, if none of these is affected.
use Rattle.std.specs.Prelude.{◌≡◌, Bool, true, false, ◌||◌, ◌&&◌, is_some, not, List, Option}
use Rattle.std.specs.FinSet as set
use Rattle.std.specs.FinMap as finmap
use Rattle.std.specs.Option.{option_map}
use Rattle.std.specs.Set.{is_member}
use Rattle.cedar_graph.specs.Graph.{AddsOnlyReached, HasNoCycleAt, IsTrusted, KeepsEdges}
use Rattle.cedar_ids.specs.UidOf.{same_uid}
use Rattle.cedar_ids.specs.declared.entity.EntityUID.{EntityUID}
use Rattle.cedar_uid_sets.specs.UidSets.{UidValues}
use Rattle.cedar_entity.specs.View.{EntityView, has_ancestor, unchanged_parts}
use Rattle.cedar_entity_maps.specs.Modes.{ancestry, is_ancestor_in}
use Rattle.cedar_entity_maps.specs.Plain.{EntityMap}

-- Holds if the row contains exactly the ancestors of the ancestors of an entity.
pub record IsRowOf (at : EntityUID → Option EntityView) (e : EntityView) (row : UidValues) : Type 0 where
  pub above : (q : EntityUID) → set.contains row q ≡ true
      → (y : EntityUID) × (has_ancestor e y ≡ true) × (is_ancestor_in (at y) q ≡ true)
  pub all : (y q : EntityUID) → has_ancestor e y ≡ true → is_ancestor_in (at y) q ≡ true → set.contains row q ≡ true

-- Holds if the row contains exactly the ancestors of the ancestors of an entity, none of its ancestors is affected, and
-- the row does not contain the key.
pub record IsRowApart (affected : EntityUID → Bool) (at : EntityUID → Option EntityView) (key : EntityUID) (e : EntityView)
    (row : UidValues) : Type 0 where
  pub row_of : IsRowOf at e row
  pub outside : (b : EntityUID) → has_ancestor e b ≡ true → affected b ≡ false
  pub apart : set.contains row key ≡ false

-- Holds if the row contains exactly the ancestors of the ancestors of the entity at a key, none of these ancestors is
-- affected, and the row does not contain the key.
pub record IsRowAbove (affected : EntityUID → Bool) (D : EntityMap) (key : EntityUID) (row : UidValues) : Type 0 where
  pub outside : (q b : EntityUID) → same_uid key q ≡ true → ancestry D q b ≡ true → affected b ≡ false
  pub above : (q b : EntityUID) → same_uid key q ≡ true → set.contains row b ≡ true
      → (y : EntityUID) × (ancestry D q y ≡ true) × (ancestry D y b ≡ true)
  pub all : (q y b : EntityUID) → same_uid key q ≡ true → ancestry D q y ≡ true → ancestry D y b ≡ true
      → set.contains row b ≡ true
  pub apart : (q : EntityUID) → same_uid key q ≡ true → set.contains row q ≡ false

-- Holds if N is D, where the entity at a key, if there is one, has also the uids of the row as ancestors.
pub record AddsRow (D N : EntityMap) (key : EntityUID) (row : UidValues) : Type 0 where
  pub others : (q : EntityUID) → same_uid key q ≡ false → finmap.get N q ≡ finmap.get D q
  pub parts : (q : EntityUID) → option_map unchanged_parts (finmap.get N q) ≡ option_map unchanged_parts (finmap.get D q)
  pub edges : (q b : EntityUID) → ancestry N q b
      ≡ (ancestry D q b || (same_uid key q && (is_some (finmap.get D q) && set.contains row b)))

-- Whether a uid is affected, and is not in the list.
abbrev pub is_left : (EntityUID → Bool) → List EntityUID → EntityUID → Bool
is_left affected merged q = affected q && not (is_member same_uid merged q)

-- Holds if N is D after a repair of some affected entities, and only the entities at the uids `left` still need a
-- repair.
--
-- - `within`: these uids are affected.
-- - `parts`, `alone`, `stays`, `only`: as in `IsRepairOf`.
-- - `trusted`: if the entities that are not affected have all ancestors that they reach in D, then all entities but
--   those left have all ancestors that they reach in N.
-- - `acyclic`: in that case, if no uid left reaches itself in N, then no affected uid reaches itself in D.
pub record IsMerged (affected left : EntityUID → Bool) (D N : EntityMap) : Type 0 where
  pub within : (q : EntityUID) → left q ≡ true → affected q ≡ true
  pub parts : (q : EntityUID) → option_map unchanged_parts (finmap.get N q) ≡ option_map unchanged_parts (finmap.get D q)
  pub alone : (q : EntityUID) → affected q ≡ false → finmap.get N q ≡ finmap.get D q
  pub stays : KeepsEdges (ancestry D) (ancestry N)
  pub only : AddsOnlyReached (ancestry D) (ancestry N)
  pub trusted : IsTrusted affected (ancestry D) → IsTrusted left (ancestry N)
  pub acyclic : IsTrusted affected (ancestry D) → HasNoCycleAt left (ancestry N) → HasNoCycleAt affected (ancestry D)

-- Holds if `after` are the uids left after the entity at a key was treated: all of `left`, and without the key if the
-- entity was repaired (`done`).
pub record IsRest (done : Bool) (key : EntityUID) (left after : EntityUID → Bool) : Type 0 where
  pub less : (q : EntityUID) → after q ≡ true → left q ≡ true
  pub rest : (q : EntityUID) → left q ≡ true → same_uid key q ≡ false → after q ≡ true
  pub all : done ≡ false → (q : EntityUID) → left q ≡ true → after q ≡ true
