-- The results of the calls that return the descendants of a uid, and the paths between two uids.
use Rattle.std.specs.Prelude.{◌≡◌, ◌⊎◌, ◌↔◌, ℕ, List, [], Bool, true, false, IsTrue, Result, Ok, Err}
use Rattle.cedar_ids.specs.Name.{NameParts}
use Rattle.cedar_ids.specs.TextOf.{IsNameText}
use Rattle.cedar_ids.specs.declared.entity.EntityUID.{EntityUID}
use Rattle.cedar_graph.specs.Graph.{Reach}
use Rattle.cedar_entity_maps.specs.Plain.{StoreView}
use Rattle.cedar_queries.specs.Queries.{AreDescendants, AreDescendantsOfType, IsShortestPath, parent_graph}
use Rattle.cedar_c_lists.specs.Texts.{AreTextsOf, IsReadOf, IsUnread}
use Rattle.cedar_c_lists.specs.declared.reason.Reason.{Reason}
use Rattle.cedar_c_stores.specs.Reads.{IsAnswered}
use Rattle.cedar_c_stores.specs.Types.{IsNoType}
use Rattle.cedar_c_stores.specs.declared.store_state.StoreState.{StoreState}

-- ---- descendants

-- Holds if the texts are the texts of the descendants of the uid u: of the uids of all entities of the store S that reach
-- u over one or more parents, each once, in ascending order.
abbrev pub ListsDescendants : EntityUID → StoreView → List (List ℕ) → Type 0
ListsDescendants u S texts = (us : List EntityUID) × AreDescendants S.entities u us × AreTextsOf us texts

-- Holds for a call that stores the texts of the descendants of the uid in a text in `answer`. After an error nothing has
-- changed.
abbrev pub AnswersDescendants : {A B H : Type 0} → List ℕ → Result A Reason → StoreState B H → StoreState B H → Type 0
AnswersDescendants text (Ok a) i j = (u : EntityUID) × IsReadOf u text × IsAnswered (ListsDescendants u) i j
AnswersDescendants text (Err w) i j = (j ≡ i) × IsUnread text w

-- Holds if the texts are the texts of the descendants of the uid u that have a type with this name.
abbrev pub ListsDescendantsOfType : EntityUID → NameParts → StoreView → List (List ℕ) → Type 0
ListsDescendantsOfType u name S texts =
    (us : List EntityUID) × AreDescendantsOfType S.entities u name us × AreTextsOf us texts

-- Holds for a call that stores the texts of the descendants of the uid in a text that have the type with the name in the
-- text `type` in `answer`. After an error nothing has changed.
abbrev pub AnswersDescendantsOfType : {A B H : Type 0} → List ℕ → List ℕ → Result A Reason → StoreState B H
    → StoreState B H → Type 0
AnswersDescendantsOfType text type (Ok a) i j =
    (u : EntityUID) × (name : NameParts) × IsReadOf u text × IsNameText name type
    × IsAnswered (ListsDescendantsOfType u name) i j
AnswersDescendantsOfType text type (Err w) i j =
    (j ≡ i) × (IsUnread text w ⊎ IsNoType type w)

-- ---- paths

-- Holds if `has` is whether u reaches v over one or more parents in the store S, and the texts are the texts of a
-- shortest path from u to v. Without a path there are no texts.
abbrev pub ReportsPath : EntityUID → EntityUID → Bool → StoreView → List (List ℕ) → Type 0
ReportsPath u v true S texts = (us : List EntityUID) × IsShortestPath S.entities u v us × AreTextsOf us texts
ReportsPath u v false S texts = (Reach (parent_graph S.entities) u v → ⊥) × (texts ≡ [])

-- Holds for a call that returns whether there is a path from the uid in the text `from` to the uid in the text `to`, and
-- stores the texts of a shortest one in `answer`. After an error nothing has changed.
abbrev pub AnswersPath : {B H : Type 0} → List ℕ → List ℕ → Result Bool Reason → StoreState B H → StoreState B H → Type 0
AnswersPath from to (Ok has) i j =
    (u : EntityUID) × (v : EntityUID) × IsReadOf u from × IsReadOf v to × IsAnswered (ReportsPath u v has) i j
AnswersPath from to (Err w) i j = (j ≡ i) × (IsUnread from w ⊎ IsUnread to w)

-- Holds for a call that returns whether the uid in the text `from` reaches the uid in the text `to` over one or more
-- parents in the store S, or an error if a uid cannot be parsed.
abbrev pub ReadsReach : StoreView → List ℕ → List ℕ → Result Bool Reason → Type 0
ReadsReach S from to (Ok b) =
    (u : EntityUID) × (v : EntityUID) × IsReadOf u from × IsReadOf v to
    × (IsTrue b ↔ Reach (parent_graph S.entities) u v)
ReadsReach S from to (Err w) = IsUnread from w ⊎ IsUnread to w
