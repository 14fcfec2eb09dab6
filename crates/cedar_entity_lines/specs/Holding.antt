-- The state of the program's store.
use Rattle.std.specs.Prelude.{◌≡◌, ℕ, Bool, true, false, List, ◌∷◌, ◌++◌, map, IsTrue}
use Rattle.std.specs.List.{AllByRecursion}
use Rattle.std.specs.FinSet as set
use Rattle.cedar_ids.specs.Escape.{is_ascii}
use Rattle.cedar_ids.specs.UidOf.{uid_parts}
use Rattle.cedar_ids.specs.declared.entity.EntityUID.{EntityUID}
use Rattle.cedar_entity.specs.View.{EntityView}
use Rattle.cedar_entity_maps.specs.Plain.{StoreView, IsPlainStore, HaveNoIndirect, input_of}
use Rattle.cedar_entity_maps.specs.InputStore.{InputEntity, InputStore, graph}
use Rattle.cedar_entity_lines.specs.EntityCommand.{EntityCommand, Ent, Build, Add, Upsert, Remove, Slice, Anc}
use Rattle.cedar_entity_lines.specs.EntityCommand.{IsEntityCommand}
use Rattle.cedar_entity_lines.specs.EntityOutput.{EntityState, RunsEntityCommand}

-- The queued entities, and the store.
pub record StoreAndWaiting : Type 0 where
  pub waiting : List EntityView
  pub store : StoreView

-- Whether the eid of a uid is ASCII.
abbrev pub IsAsciiUid : EntityUID → Type 0
IsAsciiUid u = IsTrue (is_ascii (uid_parts u).eid)

-- Whether the eids of an entity and of its parents are ASCII.
abbrev pub IsAsciiInputEntity : InputEntity → Type 0
IsAsciiInputEntity g = IsAsciiUid g.uid × ((q : EntityUID) → set.contains g.parts.parents q ≡ true → IsAsciiUid q)

-- Whether the eids of all parents in an input store are ASCII.
abbrev pub IsAsciiInput : InputStore → Type 0
IsAsciiInput W = (a b : EntityUID) → graph W a b ≡ true → IsAsciiUid b

-- Whether a store with its queue is in the state `s`:
--
-- - `waiting`: the queue has the entities of the state.
-- - `bare`: the queued entities have no indirect ancestors.
-- - `plain`: the store is a plain store with this input store (see `Plain.antt` of `cedar_entity_maps`).
-- - `ascii_waiting`, `ascii_input`: all uids that can be written have ASCII eids.
pub record Holds (m : StoreAndWaiting) (s : EntityState) : Type 0 where
  pub waiting : map input_of m.waiting ≡ s.waiting
  pub bare : HaveNoIndirect m.waiting
  pub plain : IsPlainStore s.input_store m.store
  pub ascii_waiting : AllByRecursion IsAsciiInputEntity s.waiting
  pub ascii_input : IsAsciiInput s.input_store

-- Whether the eids of all uids are ASCII.
abbrev pub AreAsciiUids : List EntityUID → Type 0
AreAsciiUids us = AllByRecursion IsAsciiUid us

-- Whether the uids of the entity that a command queues, and of its parents, have ASCII eids.
abbrev pub HasAsciiUids : EntityCommand → Type 0
HasAsciiUids (Ent u ps) = AreAsciiUids (u ∷ ps)
HasAsciiUids Build = Unit {0}
HasAsciiUids Add = Unit {0}
HasAsciiUids Upsert = Unit {0}
HasAsciiUids (Remove us) = Unit {0}
HasAsciiUids (Slice us) = Unit {0}
HasAsciiUids (Anc u) = Unit {0}

-- Whether a command in the state `s` leads to the next state, in which the store `m` is, and appends its output.
abbrev pub EntityWrites : EntityCommand → EntityState → StoreAndWaiting → List ℕ → List ℕ → Type 0
EntityWrites c s m old new = (t : EntityState) × (out : List ℕ) × RunsEntityCommand c s t out × Holds m t × (new ≡ old ++ out)

-- Whether fields are run correctly as `ent`, given the returned truth value. If they are the fields of an entity, the
-- store is in the next state, and nothing is written. Any other fields change nothing.
abbrev pub RunsEntityFields : Bool → List (List ℕ) → StoreAndWaiting → StoreAndWaiting → Type 0
RunsEntityFields true fs old new =
    (u : EntityUID) × (ps : List EntityUID) × IsEntityCommand (Ent u ps) fs
    × ((s : EntityState) → Holds old s → (out : List ℕ) → EntityWrites (Ent u ps) s new out out)
RunsEntityFields false fs old new = ((u : EntityUID) (ps : List EntityUID) → IsEntityCommand (Ent u ps) fs → ⊥) × (new ≡ old)
