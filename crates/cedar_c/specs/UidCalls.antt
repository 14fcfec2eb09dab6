-- The results of the calls that create the text of a uid and split it.
use Rattle.std.specs.Prelude.{◌≡◌, ◌⊎◌, ℕ, List, length}
use Rattle.cedar_ids.specs.Printed.{printed_name}
use Rattle.cedar_ids.specs.UidOf.{uid_parts}
use Rattle.cedar_ids.specs.declared.entity.EntityUID.{EntityUID}
use Rattle.cedar_c_lists.specs.Reasons.{number_of}
use Rattle.cedar_c_lists.specs.Texts.{IsReadOf, IsUnread}
use Rattle.cedar_c_lists.specs.Uids.{IsTextOfUid, IsUnmade, uid_bytes}
use Rattle.cedar_c_lists.specs.declared.reason.Reason.{Reason}
use Rattle.cedar_c.specs.Copying.{CopiesOut}
use Rattle.cedar_c.specs.Statuses.{ok}

-- Holds if the status is the number of a reason with the property Why, and nothing was written.
abbrev pub IsErrorFor : (Reason → Type 0) → ℕ → List ℕ → List ℕ → ℕ → ℕ → Type 0
IsErrorFor Why status old new before told =
    (w : Reason) × (status ≡ number_of w) × Why w × (new ≡ old) × (told ≡ before)

-- Holds for a call that copies the text of the uid with a type and an eid, and writes its length. After an error
-- nothing is written.
abbrev pub WritesUidText : List ℕ → List ℕ → ℕ → List ℕ → List ℕ → ℕ → ℕ → Type 0
WritesUidText type eid status old new before told =
    ((status ≡ ok) × ((t : List ℕ) × IsTextOfUid type eid t × CopiesOut t 0 old told new))
    ⊎ IsErrorFor (IsUnmade type eid) status old new before told

-- Holds for a call that copies the text of the type of a uid, followed by the bytes of its eid. It writes the length of
-- both and the length of the type. After an error nothing is written.
abbrev pub SplitsUid : List ℕ → ℕ → List ℕ → List ℕ → ℕ → ℕ → ℕ → ℕ → Type 0
SplitsUid text status old new before told type_before type_len =
    ((status ≡ ok) × ((u : EntityUID) × IsReadOf u text × CopiesOut (uid_bytes u) 0 old told new
    × (type_len ≡ length (printed_name (uid_parts u).name))))
    ⊎ (IsErrorFor (IsUnread text) status old new before told × (type_len ≡ type_before))
