-- The first index in a list at which no uid is parsed.
use Rattle.std.specs.Prelude.{◌≡◌, ℕ, List, Some, slice_get, take}
use Rattle.cedar_ids.specs.declared.entity.EntityUID.{EntityUID}
use Rattle.cedar_c_lists.specs.Texts.{AreReadAt, IsUnreadAt}
use Rattle.cedar_c_lists.specs.declared.layout.Span.{Span}
use Rattle.cedar_c_errors.specs.declared.unread.Unread.{Unread}

-- Holds if a uid is parsed from each part.
abbrev pub AreAllRead : List ℕ → List Span → Type 0
AreAllRead text spans = (us : List EntityUID) × AreReadAt text us spans

-- Holds if a uid is parsed from each part before an index, and none from the part at the index, for a reason.
abbrev pub IsFirstUnread : List ℕ → List Span → Unread → Type 0
IsFirstUnread text spans w =
    (s : Span) × (slice_get spans w.place ≡ Some s) × IsUnreadAt text s w.reason × AreAllRead text (take w.place spans)
