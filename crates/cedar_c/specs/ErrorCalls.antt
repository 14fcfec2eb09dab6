-- The results of the calls on the text of an error and on a list of uids.
use Rattle.std.specs.Prelude.{◌≡◌, ◌⊎◌, ℕ, List, Bool, true, false, Option}
use Rattle.std.specs.Option.{MatchOption}
use Rattle.cedar_c_lists.specs.Reasons.{number_of}
use Rattle.cedar_c_lists.specs.declared.layout.Span.{Span}
use Rattle.cedar_c_errors.specs.Named.{IsPartOf}
use Rattle.cedar_c_errors.specs.Unread.{AreAllRead, IsFirstUnread}
use Rattle.cedar_c_errors.specs.declared.unread.Unread.{Unread}
use Rattle.cedar_c.specs.Statuses.{ok}

-- Holds for a call that writes the span of the name at position k in the text of an error and returns true. If there is
-- no such name, it returns false and writes nothing.
abbrev pub ReportsPart : ℕ → List ℕ → ℕ → Bool → Span → Span → Type 0
ReportsPart status text k told old new = (r : Option Span) × IsPartOf status text k r
    × MatchOption r ((told ≡ false) × (new ≡ old)) (λ s. (told ≡ true) × (new ≡ s))

-- Holds for a call that checks the parts of a text. If each is the text of a uid, the status is `ok`. Otherwise the
-- call writes the position of the first part that cannot be parsed, and the status is the number of the reason.
abbrev pub ChecksUids : List ℕ → List Span → ℕ → ℕ → ℕ → Type 0
ChecksUids text spans status old new = ((status ≡ ok) × AreAllRead text spans × (new ≡ old))
    ⊎ ((w : Unread) × IsFirstUnread text spans w × (status ≡ number_of w.reason) × (new ≡ w.place))
