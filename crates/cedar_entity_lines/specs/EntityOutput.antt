-- The effect of the commands on the store and on the queued entities, and their output.
--
-- A store is represented by its input store, the `InputStore`: the entities as they were given, with parents but without
-- computed ancestors.
use Rattle.std.specs.Prelude.{◌≡◌, ◌↔◌, ◌⊎◌, ℕ, List, [], ◌∷◌, ◌++◌, true, codes}
use Rattle.std.specs.Bool.{MatchBool}
use Rattle.std.specs.List.{flat_map}
use Rattle.std.specs.List.Sorted.{IsStrictlySortedBy}
use Rattle.std.specs.Set.{is_member}
use Rattle.std.specs.Fmt.{decimal}
use Rattle.std.specs.FinMap as finmap
use Rattle.cedar_graph.specs.Graph.{Reach}
use Rattle.cedar_ids.specs.Printed.{printed_uid}
use Rattle.cedar_ids.specs.UidOf.{uid_parts, uid_order, same_uid}
use Rattle.cedar_ids.specs.declared.entity.EntityUID.{EntityUID}
use Rattle.cedar_lines.specs.Lines.{written_line}
use Rattle.cedar_entity_maps.specs.InputStore.{InputStore, InputEntity, input_entity, graph, empty_input, AllAgree, FirstDiffers, IsCyclic}
use Rattle.cedar_entities.specs.Calls.{apply_call, Passes}
use Rattle.cedar_entities.specs.Calls as calls
use Rattle.cedar_slice.specs.Slices.{IsSliceOf}
use Rattle.cedar_entity_lines.specs.EntityCommand.{EntityCommand, Ent, Build, Add, Upsert, Remove, Slice, Anc}

-- The queued entities, and the input store.
pub record EntityState : Type 0 where
  pub waiting : List InputEntity
  pub input_store : InputStore

-- The initial state: the queue and the store are empty.
abbrev pub no_entity : EntityState
no_entity = record { waiting = []; input_store = empty_input }

-- The text of a uid.
abbrev pub uid_text : EntityUID → List ℕ
uid_text u = printed_uid (uid_parts u)

-- The line of a successful call: `ok` and the number of entities.
abbrev pub count_line : InputStore → List ℕ
count_line W = written_line (codes "ok " ++ decimal (finmap.len W.entities))

-- Whether adding the list `L` to the input store `base` leads to the input store `W` and writes `out`. There are three
-- cases, and the first that applies decides:
--
-- - An entity of the list differs from the entity of `base` with its uid or, if there is none, from the first one of
--   the list. The output is a duplicate error with the first such uid. The store is empty then.
-- - The new graph has a cycle. The output is a cycle error, and the store is empty then.
-- - Otherwise `W` is the input store with the list added. The output is the number of its entities.
abbrev pub Adds : InputStore → List InputEntity → InputStore → List ℕ → Type 0
Adds base L W out =
    ((u : EntityUID) × FirstDiffers base L u × (W ≡ empty_input)
    × (out ≡ written_line (codes "refused: duplicate " ++ uid_text u)))
    ⊎ ((AllAgree base L × IsCyclic (apply_call base (calls.Add L)) × (W ≡ empty_input)
    × (out ≡ written_line (codes "refused: cycle")))
    ⊎ (Passes base (calls.Add L) × (W ≡ apply_call base (calls.Add L)) × (out ≡ count_line W)))

-- Whether upserting the list `L` into the input store `base` leads to the input store `W` and writes `out`. A cycle is
-- an error, and the store is empty then.
abbrev pub Overwrites : InputStore → List InputEntity → InputStore → List ℕ → Type 0
Overwrites base L W out =
    (IsCyclic (apply_call base (calls.Upsert L)) × (W ≡ empty_input) × (out ≡ written_line (codes "refused: cycle")))
    ⊎ (Passes base (calls.Upsert L) × (W ≡ apply_call base (calls.Upsert L)) × (out ≡ count_line W))

-- Whether removing the uids `U` from the input store `base` leads to `W` and writes `out`. A removal never fails.
abbrev pub Deletes : InputStore → List EntityUID → InputStore → List ℕ → Type 0
Deletes base U W out = (W ≡ apply_call base (calls.Remove U)) × (out ≡ count_line W)

-- Whether slicing the input store `base` at the uids `U` leads to `W` and writes `out`. A slice never fails.
abbrev pub Slices : InputStore → List EntityUID → InputStore → List ℕ → Type 0
Slices base U W out = IsSliceOf base U W × (out ≡ count_line W)

-- A tab and the text of a uid.
abbrev pub field_of : EntityUID → List ℕ
field_of u = 9 ∷ uid_text u

-- Whether `uids` are the ancestors of `u` in an input store. They are exactly the uids that `u` reaches over parents,
-- in strictly ascending order.
pub record AreAncestors (W : InputStore) (u : EntityUID) (uids : List EntityUID) : Type 0 where
  pub ascend : IsStrictlySortedBy uid_order uids
  pub reached : (q : EntityUID) → (is_member same_uid uids q ≡ true) ↔ Reach (graph W) u q

-- Whether `out` is the line with the ancestors of `u`, or `no entity` if the input store has no entity with that uid.
abbrev pub WritesAncestors : InputStore → EntityUID → List ℕ → Type 0
WritesAncestors W u out =
    MatchBool (finmap.contains_key W.entities u)
    ((uids : List EntityUID) × AreAncestors W u uids × (out ≡ written_line (codes "anc" ++ flat_map field_of uids)))
    (out ≡ written_line (codes "no entity"))

-- Whether a command changes the state `s` to the state `t` and writes `out`. `build`, `add` and `upsert` empty the
-- queue.
abbrev pub RunsEntityCommand : EntityCommand → EntityState → EntityState → List ℕ → Type 0
RunsEntityCommand (Ent u ps) s t out = (t ≡ record { waiting = s.waiting ++ input_entity u ps ∷ []; input_store = s.input_store }) × (out ≡ [])
RunsEntityCommand Build s t out = (t.waiting ≡ []) × Adds empty_input s.waiting t.input_store out
RunsEntityCommand Add s t out = (t.waiting ≡ []) × Adds s.input_store s.waiting t.input_store out
RunsEntityCommand Upsert s t out = (t.waiting ≡ []) × Overwrites s.input_store s.waiting t.input_store out
RunsEntityCommand (Remove us) s t out = (t.waiting ≡ s.waiting) × Deletes s.input_store us t.input_store out
RunsEntityCommand (Slice us) s t out = (t.waiting ≡ s.waiting) × Slices s.input_store us t.input_store out
RunsEntityCommand (Anc u) s t out = (t ≡ s) × WritesAncestors s.input_store u out
