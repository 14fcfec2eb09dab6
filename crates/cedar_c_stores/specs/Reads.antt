-- The results of the calls that read a store or one of its entities.
use Rattle.std.specs.Prelude.{◌≡◌, ◌⊎◌, ◌↔◌, ℕ, List, [], ◌∷◌, Bool, true, false, IsTrue, Option, Some, None, map, length}
use Rattle.std.specs.Prelude.{Result, Ok, Err}
use Rattle.std.specs.FinMap as finmap
use Rattle.std.specs.FinSet as set
use Rattle.cedar_ids.specs.declared.entity.EntityUID.{EntityUID}
use Rattle.cedar_graph.specs.Graph.{Reach}
use Rattle.cedar_entity.specs.Fields.{Fields, KeysAscend, field_keys}
use Rattle.cedar_entity.specs.View.{EntityView, IsDeepEqual}
use Rattle.cedar_entities.specs.Answers.{ListsEntityMap}
use Rattle.cedar_entity_maps.specs.Plain.{StoreView}
use Rattle.cedar_entity_maps.specs.InputStore.{InputStore, graph}
use Rattle.cedar_c_lists.specs.Texts.{AreTextsOf, IsReadOf, IsUnread}
use Rattle.cedar_c_lists.specs.declared.reason.Reason.{Reason}
use Rattle.cedar_c_lists.specs.declared.reason.Reason.TheVariants as reasons
use Rattle.cedar_c_stores.specs.declared.store_state.StoreState.{StoreState}

-- ---- an entity by the text of its uid

-- Holds if e is the entity of the store S with the uid in a text.
abbrev pub IsStoredAt : StoreView → List ℕ → EntityView → Type 0
IsStoredAt S text e = (u : EntityUID) × IsReadOf u text × (finmap.get S.entities u ≡ Some e)

-- Holds if the store S has no entity with the uid in a text.
abbrev pub IsNotStored : StoreView → List ℕ → Type 0
IsNotStored S text = (u : EntityUID) × IsReadOf u text × (finmap.get S.entities u ≡ None)

-- Holds if w is a reason why an entity cannot be read: its uid cannot be parsed from the text, or the store has no such
-- entity.
abbrev pub IsUntoldOf : StoreView → List ℕ → Reason → Type 0
IsUntoldOf S text w = IsUnread text w ⊎ ((w ≡ reasons.NoEntity) × IsNotStored S text)

-- Holds for a call that returns a value of the entity with the uid in a text, or an error if the entity cannot be read.
abbrev pub ReadsValue : {X : Type 0} → (EntityView → X) → StoreView → List ℕ → Result X Reason → Type 0
ReadsValue value S text (Ok x) = (e : EntityView) × IsStoredAt S text e × (x ≡ value e)
ReadsValue value S text (Err w) = IsUntoldOf S text w

-- The number of attributes of an entity.
abbrev pub attrs_count : EntityView → ℕ
attrs_count e = length e.attrs

-- The number of tags of an entity.
abbrev pub tags_count : EntityView → ℕ
tags_count e = length e.tags

-- Holds for a call that returns whether `test` is true of the entity with the uid in the text `child` and of the uid in
-- the text `other`. It returns an error if a uid cannot be parsed, or if the store has no such entity. With has_parent,
-- for example, the call returns whether `other` is a parent of `child`.
abbrev pub ReadsRelation : (EntityView → EntityUID → Bool) → StoreView → List ℕ → List ℕ → Result Bool Reason → Type 0
ReadsRelation test S child other (Ok b) =
    (e : EntityView) × (v : EntityUID) × IsStoredAt S child e × IsReadOf v other × (b ≡ test e v)
ReadsRelation test S child other (Err w) =
    IsUnread child w ⊎ (IsUnread other w ⊎ ((w ≡ reasons.NoEntity) × IsNotStored S child))

-- Whether a uid is an indirect ancestor of an entity.
abbrev pub has_indirect : EntityView → EntityUID → Bool
has_indirect e q = set.contains e.indirect q

-- Holds if u reaches q over the parents of an input store, and q is not a parent of u.
abbrev pub IsIndirectAncestorIn : InputStore → EntityUID → EntityUID → Type 0
IsIndirectAncestorIn W u q = Reach (graph W) u q × (graph W u q ≡ false)

-- Holds for a call that returns whether the entities with the uid in a text are deeply equal in two stores. It returns
-- an error if the uid cannot be parsed, or if one of the stores has no such entity.
abbrev pub ComparesAt : StoreView → StoreView → List ℕ → Result Bool Reason → Type 0
ComparesAt S T text (Ok b) =
    (d : EntityView) × (e : EntityView) × IsStoredAt S text d × IsStoredAt T text e × (IsTrue b ↔ IsDeepEqual d e)
ComparesAt S T text (Err w) =
    IsUnread text w ⊎ ((w ≡ reasons.NoEntity) × (IsNotStored S text ⊎ IsNotStored T text))

-- ---- the result of looking up a uid

-- The number of a lookup result: 2 for an entity, 1 for none in a partial store, and 0 for none in another store.
abbrev pub found_number : Option EntityView → Bool → ℕ
found_number (Some e) partial = 2
found_number None true = 1
found_number None false = 0

-- Holds for a call that returns the number of the lookup result of the uid in a text, or an error if the uid cannot be
-- parsed.
abbrev pub FindsAt : StoreView → List ℕ → Result ℕ Reason → Type 0
FindsAt S text (Ok n) =
    (u : EntityUID) × IsReadOf u text × (n ≡ found_number (finmap.get S.entities u) S.partial)
FindsAt S text (Err w) = IsUnread text w

-- Holds if j has the same store as i, made partial, and everything else is unchanged.
abbrev pub StateBecomesPartial : {B H : Type 0} → StoreState B H → StoreState B H → Type 0
StateBecomesPartial i j = (j.store ≡ record i.store { partial = true }) × (j.answer ≡ i.answer)
    × (j.nodes.items ≡ i.nodes.items) × (j.refusal.items ≡ i.refusal.items) × (j.numbers ≡ i.numbers)

-- ---- answers

-- Holds if `answer` has become texts with the property Are, and everything else is unchanged.
abbrev pub IsAnswered : {B H : Type 0} → (StoreView → List (List ℕ) → Type 0) → StoreState B H → StoreState B H → Type 0
IsAnswered Are i j = (j.store ≡ i.store) × (j.refusal.items ≡ i.refusal.items) × (j.nodes.items ≡ i.nodes.items)
    × (j.numbers ≡ i.numbers) × Are i.store j.answer

-- The uid of an entity.
abbrev pub uid_held : EntityView → EntityUID
uid_held e = e.uid

-- Holds if the texts are the texts of the uids of all entities, each once.
abbrev pub AreAllUids : StoreView → List (List ℕ) → Type 0
AreAllUids S texts = (es : List EntityView) × ListsEntityMap S.entities es × AreTextsOf (map uid_held es) texts

-- Holds if there is exactly one text. No contract describes its content.
abbrev pub IsOneText : List (List ℕ) → Type 0
IsOneText texts = (t : List ℕ) × (texts ≡ t ∷ [])

-- Holds for a call that stores texts of the store in `answer`. If an allocation fails, nothing has changed.
abbrev pub AnswersOf : {A B H : Type 0} → (StoreView → List (List ℕ) → Type 0) → Result A Reason → StoreState B H
    → StoreState B H → Type 0
AnswersOf Are (Ok a) i j = IsAnswered Are i j
AnswersOf Are (Err w) i j = (j ≡ i) × (w ≡ reasons.NoMemory)

-- Holds for a call that stores texts of the entity with the uid in a text in `answer`. After an error nothing has
-- changed.
abbrev pub AnswersAt : {A B H : Type 0} → (EntityView → List (List ℕ) → Type 0) → List ℕ → Result A Reason
    → StoreState B H → StoreState B H → Type 0
AnswersAt Are text (Ok a) i j =
    IsAnswered (λ S texts. (e : EntityView) × IsStoredAt S text e × Are e texts) i j
AnswersAt Are text (Err w) i j = (j ≡ i) × ((w ≡ reasons.NoMemory) ⊎ IsUntoldOf i.store text w)

-- Holds if the texts are the keys of the fields of an entity, in ascending order.
abbrev pub AreKeysOf : (EntityView → Fields) → EntityView → List (List ℕ) → Type 0
AreKeysOf fields e texts = (texts ≡ field_keys (fields e)) × KeysAscend (fields e)

-- The attributes of an entity.
abbrev pub attrs_of : EntityView → Fields
attrs_of e = e.attrs

-- The tags of an entity.
abbrev pub tags_of : EntityView → Fields
tags_of e = e.tags
