-- The status and the text of each reason.
use Rattle.std.specs.Prelude.{◌≡◌, ℕ, List, Bool, Result, Ok, Err, codes}
use Rattle.cedar_c_lists.specs.declared.reason.Reason.{Reason}
use Rattle.cedar_c_lists.specs.declared.reason.Reason.TheVariants as reasons

-- The status of a reason.
abbrev pub number_of : Reason → ℕ
number_of reasons.NoMemory = 1
number_of reasons.Closed = 2
number_of reasons.BadArgument = 3
number_of reasons.NotAUid = 4
number_of reasons.NotUtf8 = 5
number_of reasons.NoEntity = 6
number_of reasons.Duplicate = 7
number_of reasons.Cycle = 8
number_of reasons.NotClosed = 9
number_of reasons.SelfAncestor = 10
number_of reasons.DuplicateAncestor = 11
number_of reasons.ActionParentIsNotAction = 12
number_of reasons.ReservedKey = 13
number_of reasons.Occupied = 14
number_of reasons.NoSuchTemplate = 15
number_of reasons.Arity = 16
number_of reasons.NotAnAction = 17
number_of reasons.IdConflict = 18
number_of reasons.NoLink = 19
number_of reasons.NotALink = 20
number_of reasons.NoTemplate = 21
number_of reasons.WithLinks = 22
number_of reasons.NotATemplate = 23
number_of reasons.NoStatic = 24
number_of reasons.NotStatic = 25
number_of reasons.NoBody = 26
number_of reasons.NotAName = 27
number_of reasons.TooDeep = 28
number_of reasons.SlotInClause = 29
number_of reasons.NotActions = 30
number_of reasons.UnknownFunction = 31
number_of reasons.SlotlessLink = 32

-- The text of a reason. In an error text the names follow it.
abbrev pub words_of : Reason → List ℕ
words_of reasons.NoMemory = codes "out of memory"
words_of reasons.Closed = codes "closed"
words_of reasons.BadArgument = codes "bad argument"
words_of reasons.NotAUid = codes "not a uid"
words_of reasons.NotUtf8 = codes "not UTF-8"
words_of reasons.NoEntity = codes "no entity"
words_of reasons.Duplicate = codes "duplicate entity"
words_of reasons.Cycle = codes "cycle at"
words_of reasons.NotClosed = codes "ancestors not closed at"
words_of reasons.SelfAncestor = codes "its own ancestor"
words_of reasons.DuplicateAncestor = codes "parent and indirect ancestor"
words_of reasons.ActionParentIsNotAction = codes "ancestor of an action that is none"
words_of reasons.ReservedKey = codes "reserved key"
words_of reasons.Occupied = codes "occupied"
words_of reasons.NoSuchTemplate = codes "no template to link"
words_of reasons.Arity = codes "arity:"
words_of reasons.NotAnAction = codes "not an action"
words_of reasons.IdConflict = codes "occupied"
words_of reasons.NoLink = codes "no link"
words_of reasons.NotALink = codes "not a link"
words_of reasons.NoTemplate = codes "no template"
words_of reasons.WithLinks = codes "template with links"
words_of reasons.NotATemplate = codes "not a template"
words_of reasons.NoStatic = codes "no static policy"
words_of reasons.NotStatic = codes "not a static policy"
words_of reasons.NoBody = codes "no body"
words_of reasons.NotAName = codes "not a name"
words_of reasons.TooDeep = codes "too deep"
words_of reasons.SlotInClause = codes "slot in the clause of"
words_of reasons.NotActions = codes "uid of no action in"
words_of reasons.UnknownFunction = codes "unknown function in"
words_of reasons.SlotlessLink = codes "link without slots"

-- The status of a result: 0 for `Ok`.
abbrev pub status_of : {A : Type 0} → Result A Reason → ℕ
status_of (Ok a) = 0
status_of (Err w) = number_of w

-- Holds if the status is correct for a Boolean result. For `Ok` the new value is the Boolean, and otherwise it is the
-- old value.
abbrev pub WritesBool : Result Bool Reason → ℕ → Bool → Bool → Type 0
WritesBool (Ok b) status old new = (status ≡ 0) × (new ≡ b)
WritesBool (Err w) status old new = (status ≡ number_of w) × (new ≡ old)
