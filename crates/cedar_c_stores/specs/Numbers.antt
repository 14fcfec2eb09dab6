-- The numbers of uids, and queries of a store by numbers. A number is the position of its uid in a list without
-- duplicates.
use Rattle.std.specs.Prelude.{◌≡◌, ◌⊎◌, ℕ, List, [], ◌∷◌, ◌++◌, Bool, if◌then◌else◌, Some, None, slice_get, Result, Ok, Err}
use Rattle.std.specs.FinMap as finmap
use Rattle.std.specs.List.{IsDistinct}
use Rattle.std.specs.Set.{is_member}
use Rattle.cedar_ids.specs.UidOf.{same_uid}
use Rattle.cedar_ids.specs.declared.entity.EntityUID.{EntityUID}
use Rattle.cedar_entity_maps.specs.Plain.{StoreView}
use Rattle.cedar_c_lists.specs.Texts.{IsReadOf, IsTextOf, IsUnread}
use Rattle.cedar_c_lists.specs.declared.reason.Reason.{Reason}
use Rattle.cedar_c_lists.specs.declared.reason.Reason.TheVariants as reasons
use Rattle.cedar_c_stores.specs.Stores.{ReportsWhether}
use Rattle.cedar_c_stores.specs.declared.store_state.StoreState.{StoreState}

-- The uids, with u appended unless the list contains it.
abbrev pub uids_with : List EntityUID → EntityUID → List EntityUID
uids_with us u = if is_member same_uid us u then us else us ++ u ∷ []

-- Holds if n is the number of u in a list without duplicates.
abbrev pub IsNumberOf : List EntityUID → EntityUID → ℕ → Type 0
IsNumberOf us u n = (slice_get us n ≡ Some u) × IsDistinct same_uid us

-- Holds for a call that returns the number of the uid in a text, and appends the uid if it has none. Nothing else
-- changes. After an error nothing has changed.
abbrev pub ReturnsNumber : {B H : Type 0} → List ℕ → Result ℕ Reason → StoreState B H → StoreState B H → Type 0
ReturnsNumber text (Ok n) i j = (u : EntityUID) × IsReadOf u text
    × (j ≡ record i { numbers = uids_with i.numbers u }) × IsNumberOf j.numbers u n
ReturnsNumber text (Err w) i j = (j ≡ i) × IsUnread text w

-- Holds if no uid has the number n and w is `BadArgument`.
abbrev pub IsNoNumber : List EntityUID → ℕ → Reason → Type 0
IsNoNumber us n w = (w ≡ reasons.BadArgument) × (slice_get us n ≡ None)

-- Holds for a call that returns whether the store has an entity with the uid of a number, or an error if no uid has the
-- number.
abbrev pub ReadsPresenceByNumber : StoreView → List EntityUID → ℕ → Result Bool Reason → Type 0
ReadsPresenceByNumber S us n (Ok b) = (u : EntityUID) × (slice_get us n ≡ Some u) × (b ≡ finmap.contains_key S.entities u)
ReadsPresenceByNumber S us n (Err w) = IsNoNumber us n w

-- Holds for a call that returns whether the entity with the uid of one number is a descendant of the uid of another. It
-- returns an error if no uid has one of the numbers, or if the store has no such entity.
abbrev pub ReadsAncestryByNumbers : StoreView → List EntityUID → ℕ → ℕ → Result Bool Reason → Type 0
ReadsAncestryByNumbers S us child ancestor (Ok b) =
    (u : EntityUID) × (v : EntityUID) × (slice_get us child ≡ Some u) × (slice_get us ancestor ≡ Some v)
    × ReportsWhether S u v b
ReadsAncestryByNumbers S us child ancestor (Err w) =
    IsNoNumber us child w ⊎ (IsNoNumber us ancestor w ⊎ ((w ≡ reasons.NoEntity)
    × ((u : EntityUID) × (slice_get us child ≡ Some u) × (finmap.get S.entities u ≡ None))))

-- Holds for a call that stores the text of the uid of a number in `answer`, and changes nothing else. After an error
-- nothing has changed.
abbrev pub NamesNumber : {A B H : Type 0} → ℕ → Result A Reason → StoreState B H → StoreState B H → Type 0
NamesNumber n (Ok a) i j = (u : EntityUID) × (slice_get i.numbers n ≡ Some u)
    × ((t : List ℕ) × IsTextOf u t × (j ≡ record i { answer = t ∷ [] }))
NamesNumber n (Err w) i j = (j ≡ i) × ((w ≡ reasons.NoMemory) ⊎ IsNoNumber i.numbers n w)
