-- Uids from the text of a type and an eid, and the type and eid of a uid.
use Rattle.std.specs.Prelude.{◌≡◌, ◌⊎◌, ◌++◌, ℕ, List, Result, Ok, Err, length}
use Rattle.std.specs.Str.{IsUtf8}
use Rattle.cedar_ids.specs.Name.{NameParts}
use Rattle.cedar_ids.specs.Printed.{printed_name}
use Rattle.cedar_ids.specs.TextOf.{IsNameText}
use Rattle.cedar_ids.specs.UidOf.{uid_parts}
use Rattle.cedar_ids.specs.Views.{type_name}
use Rattle.cedar_ids.specs.declared.entity.EntityType.{EntityType}
use Rattle.cedar_ids.specs.declared.entity.EntityUID.{EntityUID}
use Rattle.cedar_c_lists.specs.Texts.{IsReadOf, IsTextOf}
use Rattle.cedar_c_lists.specs.declared.reason.Reason.{Reason}
use Rattle.cedar_c_lists.specs.declared.reason.Reason.TheVariants.{NoMemory, NotAName, NotUtf8}
use Rattle.cedar_c_lists.specs.declared.uids.UidTexts.{UidTexts}

-- Holds if the text is not a name.
abbrev pub IsNoName : List ℕ → Type 0
IsNoName text = IsUtf8 text → (n : NameParts) → IsNameText n text → ⊥

-- Holds for the result of parsing the name of a type: the type, or the reason why there is none.
abbrev pub ReadsType : Result EntityType Reason → List ℕ → Type 0
ReadsType (Ok t) text = IsNameText (type_name t) text
ReadsType (Err w) text = (w ≡ NoMemory) ⊎ ((w ≡ NotAName) × IsNoName text)

-- Holds if u has the type with this name and the eid with these bytes.
pub record HasTypeAndEid (u : EntityUID) (type eid : List ℕ) : Type 0 where
  pub named : IsNameText (uid_parts u).name type
  pub utf8 : IsUtf8 eid
  pub same : (uid_parts u).eid ≡ eid

-- Holds if w is the reason why there is no uid with this type and eid.
abbrev pub IsUnmade : List ℕ → List ℕ → Reason → Type 0
IsUnmade type eid w = (w ≡ NoMemory) ⊎ (((w ≡ NotAName) × IsNoName type) ⊎ ((w ≡ NotUtf8) × (IsUtf8 eid → ⊥)))

-- Holds for the result of creating a uid from a type and an eid.
abbrev pub CreatesUid : Result EntityUID Reason → List ℕ → List ℕ → Type 0
CreatesUid (Ok u) type eid = HasTypeAndEid u type eid
CreatesUid (Err w) type eid = IsUnmade type eid w

-- Holds if the text is a text of the uid with this type and eid.
abbrev pub IsTextOfUid : List ℕ → List ℕ → List ℕ → Type 0
IsTextOfUid type eid text = (u : EntityUID) × HasTypeAndEid u type eid × IsTextOf u text

-- The text of a uid's type followed by the bytes of its eid.
abbrev pub uid_bytes : EntityUID → List ℕ
uid_bytes u = printed_name (uid_parts u).name ++ (uid_parts u).eid

-- Holds if t has the texts of a uid parsed from the text, and the length of the type's text.
abbrev pub IsSplitOf : UidTexts → List ℕ → Type 0
IsSplitOf t text =
    (u : EntityUID) × IsReadOf u text × (t.bytes.items ≡ uid_bytes u)
    × (t.type_len ≡ length (printed_name (uid_parts u).name))
