-- The names in the text of an error, and their positions.
use Rattle.std.specs.Prelude.{◌≡◌, ◌≤◌, ◌≢◌, ◌⊎◌, ℕ, List, ◌∷◌, ◌++◌, Bool, true, false, IsTrue, Option, None, Some, length, slice_get}
use Rattle.std.specs.List.{AllByRecursion, flat_map}
use Rattle.std.specs.Option.{MatchOption}
use Rattle.cedar_ids.specs.Printed.{printed_uid}
use Rattle.cedar_ids.specs.TextOf.{IsName}
use Rattle.cedar_ids.specs.UidOf.{uid_parts}
use Rattle.cedar_ids.specs.declared.entity.EntityUID.{EntityUID}
use Rattle.cedar_binding.specs.BindingTexts.{arity_text}
use Rattle.cedar_terms.specs.SlotTree.{slot_text}
use Rattle.cedar_terms.specs.declared.slot.SlotId.{SlotId}
use Rattle.cedar_c_lists.specs.Answers.{part}
use Rattle.cedar_c_lists.specs.Reasons.{number_of, words_of}
use Rattle.cedar_c_lists.specs.StatusTexts.{IsNoReason}
use Rattle.cedar_c_lists.specs.Texts.{IsAsciiUid, IsInside, spaced}
use Rattle.cedar_c_lists.specs.declared.layout.Span.{Span}
use Rattle.cedar_c_lists.specs.declared.reason.Reason.{Reason}
use Rattle.cedar_c_lists.specs.declared.reason.Reason.TheVariants as reasons

-- Whether the text of an error consists of fixed words (`words_of`) and uids.
abbrev pub names_uids : Reason → Bool
names_uids reasons.Duplicate = true
names_uids reasons.Cycle = true
names_uids reasons.NotClosed = true
names_uids reasons.SelfAncestor = true
names_uids reasons.DuplicateAncestor = true
names_uids reasons.ActionParentIsNotAction = true
names_uids reasons.NotAnAction = true
names_uids w = false

-- Whether the text of an error consists of fixed words (`words_of`) and one name: an id or a key.
abbrev pub names_one : Reason → Bool
names_one reasons.ReservedKey = true
names_one reasons.Occupied = true
names_one reasons.NoSuchTemplate = true
names_one reasons.IdConflict = true
names_one reasons.NoLink = true
names_one reasons.NotALink = true
names_one reasons.NoTemplate = true
names_one reasons.WithLinks = true
names_one reasons.NotATemplate = true
names_one reasons.NoStatic = true
names_one reasons.NotStatic = true
names_one reasons.SlotInClause = true
names_one reasons.NotActions = true
names_one reasons.UnknownFunction = true
names_one reasons.SlotlessLink = true
names_one w = false

-- Holds if the type of the uid is a name, and its eid is ASCII.
abbrev pub IsWritten : EntityUID → Type 0
IsWritten u = IsName (uid_parts u).name × IsAsciiUid u

-- Holds if all of the uids satisfy `IsWritten`.
abbrev pub AreWritten : List EntityUID → Type 0
AreWritten us = AllByRecursion IsWritten us

-- Holds if a span has the text of the uid at index k.
abbrev pub IsUidIn : List ℕ → List EntityUID → ℕ → Span → Type 0
IsUidIn text us k s =
    (u : EntityUID) × (slice_get us k ≡ Some u) × IsInside text s × (part text s ≡ printed_uid (uid_parts u))

-- Holds if a span has the text of the name.
abbrev pub IsNameIn : List ℕ → List ℕ → Span → Type 0
IsNameIn text name s = IsInside text s × (part text s ≡ name)

-- Holds if a span has the text of the slot at index k.
abbrev pub IsSlotIn : List ℕ → List SlotId → ℕ → Span → Type 0
IsSlotIn text ss k s = (x : SlotId) × (slice_get ss k ≡ Some x) × IsInside text s × (part text s ≡ slot_text x)

-- Holds if, for an error that names uids, r is the span of the uid at index k, or `None` if there are not that many.
abbrev pub PartsUids : Reason → List ℕ → ℕ → Option Span → Type 0
PartsUids w text k r = IsTrue (names_uids w) → (us : List EntityUID) → AreWritten us
    → text ≡ words_of w ++ flat_map spaced us → MatchOption r (length us ≤ k) (IsUidIn text us k)

-- Holds if, for an error that names an id or a key, r is its span at index 0, and `None` at any other index.
abbrev pub PartsName : Reason → List ℕ → ℕ → Option Span → Type 0
PartsName w text k r = IsTrue (names_one w) → (name : List ℕ) → text ≡ words_of w ++ (32 ∷ name)
    → MatchOption r (k ≢ 0) (λ s. (k ≡ 0) × IsNameIn text name s)

-- Holds if, for an error that names slots, r is the span of the slot at index k, or `None` if there are not that many.
-- The unbound slots come first, then the bound ones that the template does not have.
abbrev pub PartsSlots : Reason → List ℕ → ℕ → Option Span → Type 0
PartsSlots w text k r = w ≡ reasons.Arity → (unbound extra : List SlotId)
    → text ≡ words_of w ++ (32 ∷ arity_text unbound extra)
    → MatchOption r (length (unbound ++ extra) ≤ k) (IsSlotIn text (unbound ++ extra) k)

-- Holds if r is the span of the name at index k in the text of the error with a status. A number that is not a status
-- has no names.
abbrev pub IsPartOf : ℕ → List ℕ → ℕ → Option Span → Type 0
IsPartOf status text k r = ((w : Reason) × (number_of w ≡ status) × PartsUids w text k r × PartsName w text k r
    × PartsSlots w text k r) ⊎ (IsNoReason status × (r ≡ None))
