-- The uids that texts are parsed as, the reasons why a text is not a uid, and the texts of uids.
use Rattle.std.specs.Prelude.{◌≡◌, ◌⊎◌, ◌≤◌, ℕ, List, ◌∷◌, IsTrue, Result, Ok, Err, Some, length, slice_get}
use Rattle.std.specs.List.{AllZip}
use Rattle.std.specs.Option.{IfSome}
use Rattle.std.specs.Str.{IsUtf8}
use Rattle.cedar_ids.specs.Escape.{is_ascii}
use Rattle.cedar_ids.specs.Printed.{printed_uid, uid_output}
use Rattle.cedar_ids.specs.ReadsUid.{StartsWithName}
use Rattle.cedar_ids.specs.TextOf.{IsPrinted}
use Rattle.cedar_ids.specs.UidOf.{uid_parts}
use Rattle.cedar_ids.specs.declared.entity.EntityUID.{EntityUID}
use Rattle.cedar_c_lists.specs.Answers.{part}
use Rattle.cedar_c_lists.specs.declared.layout.Span.{Span}
use Rattle.cedar_c_lists.specs.declared.reason.Reason.{Reason}
use Rattle.cedar_c_lists.specs.declared.reason.Reason.TheVariants.{NoMemory, BadArgument, NotAUid, NotUtf8}

-- Holds if u is parsed from the text. If its eid is ASCII, the text is the printed uid. If the text is a printed uid
-- with an ASCII eid, u is that uid. The text has the name of the type of u before the first `::"`.
pub record IsReadOf (u : EntityUID) (text : List ℕ) : Type 0 where
  pub printed : IsTrue (is_ascii (uid_parts u).eid) → IsPrinted (uid_parts u) text
  pub exact : (v : EntityUID) → IsPrinted (uid_parts v) text → u ≡ v
  pub starts : StartsWithName (uid_parts u).name text

-- Holds if the text is not a printed uid with an ASCII eid.
abbrev pub IsNoUid : List ℕ → Type 0
IsNoUid text = IsUtf8 text → (v : EntityUID) → IsPrinted (uid_parts v) text → ⊥

-- Holds if w is the reason why the text is not parsed as a uid: an allocation failure, or the text is not a uid.
abbrev pub IsUnread : List ℕ → Reason → Type 0
IsUnread text w = (w ≡ NoMemory) ⊎ ((w ≡ NotAUid) × IsNoUid text)

-- Holds for the result of parsing a uid: the uid, or the reason why there is none.
abbrev pub ReadsUid : Result EntityUID Reason → List ℕ → Type 0
ReadsUid (Ok u) text = IsReadOf u text
ReadsUid (Err w) text = IsUnread text w

-- Holds for the result of checking a text: there is a uid, or the reason why there is none.
abbrev pub ChecksUid : {A : Type 0} → Result A Reason → List ℕ → Type 0
ChecksUid (Ok a) text = (u : EntityUID) × IsReadOf u text
ChecksUid (Err w) text = IsUnread text w

-- Holds if w is the reason why the bytes are not an id: an allocation failure, or they are not UTF-8.
abbrev pub IsNoId : List ℕ → Reason → Type 0
IsNoId text w = (w ≡ NoMemory) ⊎ ((w ≡ NotUtf8) × (IsUtf8 text → ⊥))

-- Holds for the result of creating an id: the id with these bytes, or the reason why there is none.
abbrev pub ReadsId : Result (List ℕ) Reason → List ℕ → Type 0
ReadsId (Ok id) text = IsUtf8 text × (id ≡ text)
ReadsId (Err w) text = IsNoId text w

-- Holds if a span is within a text.
abbrev pub IsInside : List ℕ → Span → Type 0
IsInside text s = (s.start ≤ s.end) × (s.end ≤ length text)

-- Holds if u is parsed from a part of a text.
abbrev pub IsReadAt : List ℕ → EntityUID → Span → Type 0
IsReadAt text u s = IsInside text s × IsReadOf u (part text s)

-- Holds if w is the reason why no uid is parsed from a part of a text.
abbrev pub IsUnreadAt : List ℕ → Span → Reason → Type 0
IsUnreadAt text s w =
    (w ≡ NoMemory) ⊎ (((w ≡ BadArgument) × (IsInside text s → ⊥))
    ⊎ ((w ≡ NotAUid) × IsInside text s × IsNoUid (part text s)))

-- Holds for the result of parsing a uid from a part of a text.
abbrev pub ReadsUidAt : Result EntityUID Reason → List ℕ → Span → Type 0
ReadsUidAt (Ok u) text s = IsReadAt text u s
ReadsUidAt (Err w) text s = IsUnreadAt text s w

-- Holds if the uids are parsed from the parts of a text, one from each.
abbrev pub AreReadAt : List ℕ → List EntityUID → List Span → Type 0
AreReadAt text us spans = AllZip (IsReadAt text) us spans

-- Holds if w is the reason why no uid is parsed from one of the parts of a text.
abbrev pub IsOneUnread : List ℕ → List Span → Reason → Type 0
IsOneUnread text spans w = (w ≡ NoMemory) ⊎ ((k : ℕ) × (s : Span) × (slice_get spans k ≡ Some s) × IsUnreadAt text s w)

-- Holds if the text is a text of the uid: the printed uid if the eid is ASCII, and any text otherwise.
abbrev pub IsTextOf : EntityUID → List ℕ → Type 0
IsTextOf u text = IfSome (uid_output (uid_parts u)) (λ t. text ≡ t)

-- Holds if these are texts of the uids, one for each.
abbrev pub AreTextsOf : List EntityUID → List (List ℕ) → Type 0
AreTextsOf us ts = AllZip IsTextOf us ts

-- Holds if the eid of the uid is ASCII.
abbrev pub IsAsciiUid : EntityUID → Type 0
IsAsciiUid u = IsTrue (is_ascii (uid_parts u).eid)

-- A blank followed by the printed uid.
abbrev pub spaced : EntityUID → List ℕ
spaced u = 32 ∷ printed_uid (uid_parts u)
