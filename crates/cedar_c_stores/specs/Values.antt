-- The result of reading an attribute or a tag of an entity.
use Rattle.std.specs.Prelude.{◌≡◌, ◌⊎◌, ℕ, List, [], ◌∷◌, Bool, true, false, Some, None, Result, Ok, Err}
use Rattle.std.specs.Str.{IsUtf8}
use Rattle.cedar_terms.specs.declared.partial_value.PartialValue.{PartialValue}
use Rattle.cedar_entity.specs.Fields.{Fields, field_at}
use Rattle.cedar_entity.specs.View.{EntityView}
use Rattle.cedar_c_lists.specs.declared.reason.Reason.{Reason}
use Rattle.cedar_c_lists.specs.declared.reason.Reason.TheVariants as reasons
use Rattle.cedar_c_trees.specs.Writes.{IsPartialWritten}
use Rattle.cedar_c_trees.specs.declared.node.Node.{Node}
use Rattle.cedar_c_stores.specs.Reads.{IsStoredAt, IsUntoldOf}
use Rattle.cedar_c_stores.specs.declared.store_state.StoreState.{StoreState}

-- Holds if the nodes encode a partial value over a text, and `answer` has exactly this text.
pub record IsEncodedValue (value : PartialValue) (answer : List (List ℕ)) (nodes : List Node) : Type 0 where
  pub bytes : List ℕ
  pub one : answer ≡ bytes ∷ []
  pub written : IsPartialWritten value (record { bytes = bytes; nodes = nodes })

-- Holds if the entity with the uid in a text has a value at a key of some fields, and `nodes` and `answer` encode the
-- value. Everything else is unchanged.
pub record Shows {B H : Type 0} (fields : EntityView → Fields) (text key : List ℕ) (i j : StoreState B H)
    : Type 0 where
  pub store : j.store ≡ i.store
  pub refusal : j.refusal.items ≡ i.refusal.items
  pub numbers : j.numbers ≡ i.numbers
  pub utf8 : IsUtf8 key
  pub entity : EntityView
  pub entities : IsStoredAt i.store text entity
  pub value : PartialValue
  pub found : field_at key (fields entity) ≡ Some value
  pub shown : IsEncodedValue value j.answer j.nodes.items

-- Holds for a call that returns whether the entity with the uid in a text has a value at a key of some fields. If it
-- has, the call stores the encoded value. Otherwise, and after an error, nothing has changed.
abbrev pub GetsAt : {B H : Type 0} → (EntityView → Fields) → List ℕ → List ℕ → Result Bool Reason → StoreState B H
    → StoreState B H → Type 0
GetsAt fields text key (Ok true) i j = Shows fields text key i j
GetsAt fields text key (Ok false) i j =
    (j ≡ i) × IsUtf8 key × ((e : EntityView) × IsStoredAt i.store text e × (field_at key (fields e) ≡ None))
GetsAt fields text key (Err w) i j =
    (j ≡ i) × ((w ≡ reasons.NoMemory) ⊎ (IsUntoldOf i.store text w ⊎ ((w ≡ reasons.NotUtf8) × (IsUtf8 key → ⊥))))
