-- The results of the calls on a store, and the state after them. B is the hasher builder of the store, and H is its
-- hasher. Each definition with `Gives` in its name has the public clauses of the call in `cedar_entities` with that
-- purpose. The clause `strips` of upserting is left out. `IsSlice` has the clauses of the call in `cedar_slice`.
use Rattle.std.specs.Prelude.{◌≡◌, ◌↔◌, ◌⊎◌, ℕ, List, [], ◌∷◌, ◌++◌, Bool, true, false, IfOk, map, Some, None, Result}
use Rattle.std.specs.Prelude.{Ok, Err}
use Rattle.std.specs.FinMap as finmap
use Rattle.std.specs.FinSet as set
use Rattle.std.specs.List.{AllByRecursion, flat_map}
use Rattle.std.specs.Set.{is_member}
use Rattle.std.specs.String.{string_bytes}
use Rattle.cedar_ids.specs.UidOf.{same_uid}
use Rattle.cedar_ids.specs.declared.entity.EntityUID.{EntityUID}
use Rattle.cedar_uid_sets.specs.UidSets.{Ascend}
use Rattle.cedar_graph.specs.Graph.{Reach}
use Rattle.cedar_graph.specs.Faults.{vertex_of}
use Rattle.cedar_graph.specs.declared.err.TcError.{TcError}
use Rattle.cedar_graph.specs.declared.err.TcError.TheVariants as tc
use Rattle.cedar_entity.specs.View.{EntityView, has_ancestor}
use Rattle.cedar_entity.specs.declared.err.EntitiesError.{EntitiesError}
use Rattle.cedar_entity.specs.declared.err.EntitiesError.TheVariants as errors
use Rattle.cedar_entities.specs.Changes.{AddsEntities, AddsPlain, RemovesEntities, RemovesPlain}
use Rattle.cedar_entities.specs.Changes.{UpsertsEntities, UpsertsPlain}
use Rattle.cedar_entity_maps.specs.Plain.{StoreView, no_entities, input_of, HaveNoIndirect, IsPlainStore}
use Rattle.cedar_entities.specs.StoreFaults.{IsStoreFault, IsValidStore}
use Rattle.cedar_entity_maps.specs.InputStore.{InputStore, graph}
use Rattle.cedar_entity_maps.specs.declared.modes.TCComputation.{TCComputation}
use Rattle.cedar_slice.specs.Slices.{sliced, IsPlainSlice}
use Rattle.cedar_c_stores.specs.Lists.{AreListed, IsMode, IsNoMode, IsUnlisted}
use Rattle.cedar_c_lists.specs.Reasons.{words_of}
use Rattle.cedar_c_lists.specs.Stops.{IsStopped, KeepsErrorText}
use Rattle.cedar_c_lists.specs.Texts.{AreReadAt, AreTextsOf, IsAsciiUid, IsOneUnread, IsReadOf, IsUnread, spaced}
use Rattle.cedar_c_lists.specs.declared.layout.Edge.{Edge}
use Rattle.cedar_c_lists.specs.declared.layout.Span.{Span}
use Rattle.cedar_c_lists.specs.declared.reason.Reason.{Reason}
use Rattle.cedar_c_lists.specs.declared.reason.Reason.TheVariants as reasons
use Rattle.cedar_c_stores.specs.declared.store_state.StoreState.{StoreState}

-- ---- errors

-- The reason of an error of the closure.
abbrev pub closure_reason : TcError EntityUID → Reason
closure_reason (tc.MissingTcEdge e) = reasons.NotClosed
closure_reason (tc.HasCycle e) = reasons.Cycle
closure_reason tc.Memory = reasons.NoMemory

-- The uids in an error of the closure.
abbrev pub closure_names : TcError EntityUID → List EntityUID
closure_names (tc.MissingTcEdge e) = e.child ∷ e.parent ∷ e.grandparent ∷ []
closure_names (tc.HasCycle e) = vertex_of e ∷ []
closure_names tc.Memory = []

-- The reason of an error of a store.
abbrev pub reason_of : EntitiesError → Reason
reason_of (errors.Duplicate u) = reasons.Duplicate
reason_of (errors.TransitiveClosureError t) = closure_reason t
reason_of (errors.SelfAncestor u) = reasons.SelfAncestor
reason_of (errors.DuplicateAncestor u a) = reasons.DuplicateAncestor
reason_of (errors.ActionParentIsNotAction u p) = reasons.ActionParentIsNotAction
reason_of (errors.ReservedKey k) = reasons.ReservedKey
reason_of errors.Memory = reasons.NoMemory

-- The uids in an error of a store.
abbrev pub uids_in_error : EntitiesError → List EntityUID
uids_in_error (errors.Duplicate u) = u ∷ []
uids_in_error (errors.TransitiveClosureError t) = closure_names t
uids_in_error (errors.SelfAncestor u) = u ∷ []
uids_in_error (errors.DuplicateAncestor u a) = u ∷ a ∷ []
uids_in_error (errors.ActionParentIsNotAction u p) = u ∷ p ∷ []
uids_in_error (errors.ReservedKey k) = []
uids_in_error errors.Memory = []

-- The key in an error of a store, after a space.
abbrev pub key_in_error : EntitiesError → List ℕ
key_in_error (errors.ReservedKey k) = 32 ∷ string_bytes k
key_in_error e = []

-- Holds if `text` is the text of an error: the words of its reason, then its uids, each after a space, then its key.
-- Allows any text if a uid is not ASCII.
abbrev pub IsRefusalText : EntitiesError → List ℕ → Type 0
IsRefusalText e text = AllByRecursion IsAsciiUid (uids_in_error e)
    → text ≡ words_of (reason_of e) ++ (flat_map spaced (uids_in_error e) ++ key_in_error e)

-- Holds if w is the reason of an error and `text` is its text, or if w is `NoMemory`. A call returns `NoMemory` also if
-- the allocation of the text fails.
abbrev pub IsErrorTextBy : EntitiesError → Reason → List ℕ → Type 0
IsErrorTextBy e w text = (w ≡ reasons.NoMemory) ⊎ ((w ≡ reason_of e) × IsRefusalText e text)

-- ---- changing a store

-- The empty store.
abbrev pub empty_store : StoreView
empty_store = record { entities = no_entities; partial = false; known_plain = true }

-- The empty store that is partial exactly if S is.
abbrev pub emptied : StoreView → StoreView
emptied S = record { entities = no_entities; partial = S.partial; known_plain = true }

-- Holds if `answer`, the nodes and the numbers are unchanged. The text of the last error may change only if the call
-- returned an error other than `NoMemory`.
abbrev pub KeepsTexts : {A B H : Type 0} → Result A Reason → StoreState B H → StoreState B H → Type 0
KeepsTexts r i j = (j.answer ≡ i.answer) × (j.nodes.items ≡ i.nodes.items) × (j.numbers ≡ i.numbers)
    × KeepsErrorText r i.refusal.items j.refusal.items

-- Holds if the store is unchanged, or if an allocation failed and the store is empty. It is then partial exactly if it
-- was before.
abbrev pub StaysOrEmpties : StoreView → Reason → StoreView → Type 0
StaysOrEmpties O w N = (N ≡ O) ⊎ ((w ≡ reasons.NoMemory) × (N ≡ emptied O))

-- Holds if k has the store that an edit of O returned. After an error k has the reason and the text of the error, and
-- the store O. After an allocation failure k can have an empty store instead.
abbrev pub StoresResult : {A B H : Type 0} → Result StoreView EntitiesError → StoreView → Result A Reason → StoreState B H
    → Type 0
StoresResult (Ok S) O (Ok a) k = k.store ≡ S
StoresResult (Err e) O (Err w) k = StaysOrEmpties O w k.store × IsErrorTextBy e w k.refusal.items
StoresResult given O answer k = ⊥

-- Holds if k has the store that was built instead of O. After an error k has the reason and the text of the error, and
-- the store O.
abbrev pub StoresBuilt : {A B H : Type 0} → Result StoreView EntitiesError → StoreView → Result A Reason → StoreState B H
    → Type 0
StoresBuilt (Ok S) O (Ok a) k = k.store ≡ S
StoresBuilt (Err e) O (Err w) k = (k.store ≡ O) × IsErrorTextBy e w k.refusal.items
StoresBuilt given O answer k = ⊥

-- Holds if `given` is the result of adding the entities L to the store S in mode m.
pub record IsAddResult (m : TCComputation) (L : List EntityView) (S : StoreView)
    (given : Result StoreView EntitiesError) : Type 0 where
  pub partial : IfOk given (λ N. N.partial ≡ S.partial)
  pub adds : AddsEntities m S.entities L given (λ N. N.entities)
  pub plain : (W : InputStore) → IsPlainStore W S → HaveNoIndirect L → AddsPlain m W (map input_of L) given

-- Holds if `given` is the result of upserting the entities L into the store S in mode m.
pub record IsUpsertResult (m : TCComputation) (L : List EntityView) (S : StoreView)
    (given : Result StoreView EntitiesError) : Type 0 where
  pub partial : IfOk given (λ N. N.partial ≡ S.partial)
  pub upserts : UpsertsEntities m S.entities L given
  pub plain : (W : InputStore) → IsPlainStore W S → HaveNoIndirect L → UpsertsPlain m W (map input_of L) given

-- Holds if `given` is the result of removing the uids U from the store S in mode m.
pub record IsRemoveResult (m : TCComputation) (U : List EntityUID) (S : StoreView)
    (given : Result StoreView EntitiesError) : Type 0 where
  pub partial : IfOk given (λ N. N.partial ≡ S.partial)
  pub removes : RemovesEntities m S.entities U given
  pub plain : (W : InputStore) → IsPlainStore W S → RemovesPlain W U given

-- Holds for a call that adds the entities L to the store S.
abbrev pub Adds : {A B H : Type 0} → TCComputation → List EntityView → StoreView → Result A Reason → StoreState B H
    → Type 0
Adds m L S r k = (given : Result StoreView EntitiesError) × IsAddResult m L S given × StoresResult given S r k

-- Holds for a call that replaces the store O by the result of adding the entities L to an empty store.
abbrev pub Builds : {A B H : Type 0} → TCComputation → List EntityView → StoreView → Result A Reason → StoreState B H
    → Type 0
Builds m L O r k = (given : Result StoreView EntitiesError) × IsAddResult m L empty_store given × StoresBuilt given O r k

-- Holds for a call that upserts the entities L into the store S.
abbrev pub Upserts : {A B H : Type 0} → TCComputation → List EntityView → StoreView → Result A Reason → StoreState B H
    → Type 0
Upserts m L S r k = (given : Result StoreView EntitiesError) × IsUpsertResult m L S given × StoresResult given S r k

-- Holds for a call that removes the uids U from the store S.
abbrev pub Removes : {A B H : Type 0} → TCComputation → List EntityUID → StoreView → Result A Reason → StoreState B H
    → Type 0
Removes m U S r k = (given : Result StoreView EntitiesError) × IsRemoveResult m U S given × StoresResult given S r k

-- Holds for a call that replaces the store by the entities of lists, in the mode of a number. If the mode or the lists
-- cannot be read, the call fails and changes nothing.
abbrev pub BuildsListed : {A B H : Type 0} → List ℕ → List Span → ℕ → List Edge → ℕ → Result A Reason → StoreState B H
    → StoreState B H → Type 0
BuildsListed text spans n es mode r i j =
    IsStopped (λ w. IsNoMode mode w ⊎ IsUnlisted text spans n es w) r i j
    ⊎ ((m : TCComputation) × (L : List EntityView) × IsMode mode m × AreListed text spans n es L
    × Builds m L i.store r j × KeepsTexts r i j)

-- Holds for a call that adds the entities of lists to the store, in the same way.
abbrev pub AddsListed : {A B H : Type 0} → List ℕ → List Span → ℕ → List Edge → ℕ → Result A Reason → StoreState B H
    → StoreState B H → Type 0
AddsListed text spans n es mode r i j =
    IsStopped (λ w. IsNoMode mode w ⊎ IsUnlisted text spans n es w) r i j
    ⊎ ((m : TCComputation) × (L : List EntityView) × IsMode mode m × AreListed text spans n es L × Adds m L i.store r j
    × KeepsTexts r i j)

-- Holds for a call that upserts the entities of lists, in the same way.
abbrev pub UpsertsListed : {A B H : Type 0} → List ℕ → List Span → ℕ → List Edge → ℕ → Result A Reason → StoreState B H
    → StoreState B H → Type 0
UpsertsListed text spans n es mode r i j =
    IsStopped (λ w. IsNoMode mode w ⊎ IsUnlisted text spans n es w) r i j
    ⊎ ((m : TCComputation) × (L : List EntityView) × IsMode mode m × AreListed text spans n es L
    × Upserts m L i.store r j × KeepsTexts r i j)

-- Holds for a call that removes the entities with the uids in parts of a text, in the mode of a number. If the mode or
-- a uid cannot be read, the call fails and changes nothing.
abbrev pub RemovesListed : {A B H : Type 0} → List ℕ → List Span → ℕ → Result A Reason → StoreState B H → StoreState B H
    → Type 0
RemovesListed text spans mode r i j =
    IsStopped (λ w. IsNoMode mode w ⊎ IsOneUnread text spans w) r i j
    ⊎ ((m : TCComputation) × (U : List EntityUID) × IsMode mode m × AreReadAt text U spans × Removes m U i.store r j
    × KeepsTexts r i j)

-- ---- queries

-- Holds if the store S has an entity with the uid u, and `answer` is whether v is one of its ancestors. In a plain
-- store of W that is whether u reaches v over the parents in W.
pub record ReportsWhether (S : StoreView) (u v : EntityUID) (answer : Bool) : Type 0 where
  pub entity : EntityView
  pub entities : finmap.get S.entities u ≡ Some entity
  pub told : answer ≡ has_ancestor entity v
  pub plain : (W : InputStore) → IsPlainStore W S → (answer ≡ true) ↔ Reach (graph W) u v

-- Holds for a call that returns whether the entity with the uid in the text `child` is a descendant of the uid in the
-- text `ancestor`. It returns an error if a uid cannot be parsed, or if the store has no such entity.
abbrev pub ReadsAncestry : StoreView → List ℕ → List ℕ → Result Bool Reason → Type 0
ReadsAncestry S child ancestor (Ok b) =
    (u : EntityUID) × (v : EntityUID) × IsReadOf u child × IsReadOf v ancestor × ReportsWhether S u v b
ReadsAncestry S child ancestor (Err w) =
    IsUnread child w ⊎ (IsUnread ancestor w ⊎ ((w ≡ reasons.NoEntity)
    × ((u : EntityUID) × IsReadOf u child × (finmap.get S.entities u ≡ None))))

-- Holds for a call that returns whether the store has an entity with the uid in a text, or an error if the uid cannot
-- be parsed.
abbrev pub ReadsPresence : StoreView → List ℕ → Result Bool Reason → Type 0
ReadsPresence S text (Ok b) = (u : EntityUID) × IsReadOf u text × (b ≡ finmap.contains_key S.entities u)
ReadsPresence S text (Err w) = IsUnread text w

-- Holds if the texts are the texts of the uids for which `test` is true of the entity with the uid u, in ascending
-- order. In a plain store of W they are the uids that are related to u in W. With has_ancestor and IsAbove, for
-- example, they are the ancestors of the entity.
pub record ListsThose (test : EntityView → EntityUID → Bool) (Related : InputStore → EntityUID → EntityUID
    → Type 0) (S : StoreView) (u : EntityUID) (texts : List (List ℕ)) : Type 0 where
  pub entity : EntityView
  pub entities : finmap.get S.entities u ≡ Some entity
  pub uids : List EntityUID
  pub ascend : Ascend uids
  pub members : (q : EntityUID) → is_member same_uid uids q ≡ test entity q
  pub plain : (W : InputStore) → IsPlainStore W S → (q : EntityUID) → (is_member same_uid uids q ≡ true) ↔ Related W u q
  pub are_texts : AreTextsOf uids texts

-- Holds for a call that stores these texts for the entity with the uid in a text in `answer`, and changes nothing else.
-- After an error nothing has changed.
abbrev pub Listing : {A B H : Type 0} → (EntityView → EntityUID → Bool) → (InputStore → EntityUID → EntityUID → Type 0)
    → List ℕ → Result A Reason → StoreState B H → StoreState B H → Type 0
Listing test Related text (Ok a) i j =
    (j.store ≡ i.store) × (j.refusal.items ≡ i.refusal.items) × (j.nodes.items ≡ i.nodes.items)
    × (j.numbers ≡ i.numbers) × ((u : EntityUID) × IsReadOf u text × ListsThose test Related i.store u j.answer)
Listing test Related text (Err w) i j =
    (j ≡ i) × ((w ≡ reasons.NoMemory) ⊎ (IsUnread text w
    ⊎ ((w ≡ reasons.NoEntity) × ((u : EntityUID) × IsReadOf u text × (finmap.get i.store.entities u ≡ None)))))

-- Whether a uid is a parent of an entity.
abbrev pub has_parent : EntityView → EntityUID → Bool
has_parent e q = set.contains e.parents q

-- Holds if u reaches q over the parents in the input store W. Parents are reached too.
abbrev pub IsAncestorIn : InputStore → EntityUID → EntityUID → Type 0
IsAncestorIn W u q = Reach (graph W) u q

-- Holds if q is a parent of u in the input store W.
abbrev pub IsParent : InputStore → EntityUID → EntityUID → Type 0
IsParent W u q = graph W u q ≡ true

-- Holds for a call that validates the store. If the store is valid, nothing has changed. Otherwise the call returns the
-- reason of a fault and stores its text, and changes nothing else. After `NoMemory` the text is unchanged too.
abbrev pub Validates : {A B H : Type 0} → Result A Reason → StoreState B H → StoreState B H → Type 0
Validates (Ok a) i j = IsValidStore i.store.entities × (j ≡ i)
Validates (Err w) i j =
    (j.store ≡ i.store) × (j.answer ≡ i.answer) × (j.nodes.items ≡ i.nodes.items) × (j.numbers ≡ i.numbers)
    × (w ≡ reasons.NoMemory → j.refusal.items ≡ i.refusal.items)
    × ((w ≡ reasons.NoMemory) ⊎ ((e : EntitiesError) × IsStoreFault i.store.entities e × IsErrorTextBy e w j.refusal.items))

-- Holds if `answer`, the nodes, the numbers and the text of the last error are empty.
abbrev pub IsUntold : {B H : Type 0} → StoreState B H → Type 0
IsUntold k = (k.answer ≡ []) × (k.refusal.items ≡ []) × (k.nodes.items ≡ []) × (k.numbers ≡ [])

-- Holds if N is the slice of the store S at the uids U. The slice of a plain store is plain.
pub record IsSlice (U : List EntityUID) (S N : StoreView) : Type 0 where
  pub entities : N ≡ record { entities = sliced S.entities U; partial = false; known_plain = S.known_plain }
  pub plain : (W : InputStore) → IsPlainStore W S → IsPlainSlice W U N

-- Holds for a call that returns the slice of the store S at the uids in parts of a text, with an empty state. It returns
-- an error if a uid cannot be parsed, or if an allocation fails.
abbrev pub SlicesAt : {B H : Type 0} → List ℕ → List Span → StoreView → Result (StoreState B H) Reason → Type 0
SlicesAt text spans S (Ok k) = (U : List EntityUID) × AreReadAt text U spans × IsSlice U S k.store × IsUntold k
SlicesAt text spans S (Err w) = IsOneUnread text spans w

-- Holds for a call that returns a copy of the store S with an empty state, or `NoMemory` if an allocation fails.
abbrev pub Copies : {B H : Type 0} → StoreView → Result (StoreState B H) Reason → Type 0
Copies S (Ok k) = (k.store ≡ S) × IsUntold k
Copies S (Err w) = w ≡ reasons.NoMemory
