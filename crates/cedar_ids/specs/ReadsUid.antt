-- The order of the checks when a uid is parsed.
use Rattle.std.specs.Prelude.{◌≡◌, ◌≤◌, ◌++◌, ℕ, List, length, codes, Result, Ok, Err}
use Rattle.cedar_ids.specs.Name.{NameParts}
use Rattle.cedar_ids.specs.TextOf.{IsName}
use Rattle.cedar_ids.specs.Printed.{printed_name}
use Rattle.cedar_ids.specs.UidOf.{uid_parts}
use Rattle.cedar_ids.specs.declared.entity.EntityUID.{EntityUID}
use Rattle.cedar_ids.specs.declared.err.ParseErrors.{ParseErrors}
use Rattle.cedar_ids.specs.declared.err.ParseErrors.TheVariants.{NotNormalized, InvalidName, Memory}

-- Whether a text is `front`, the mark `::"`, `back` and a final `"`.
abbrev pub IsSplit : List ℕ → List ℕ → List ℕ → Type 0
IsSplit front back text = text ≡ front ++ (codes "::\"" ++ (back ++ codes "\""))

-- Whether a text contains the mark `::"` and ends in `"` after it.
abbrev pub HasMarks : List ℕ → Type 0
HasMarks text = (front : List ℕ) × (back : List ℕ) × IsSplit front back text

-- Whether a text is split at its first mark `::"`.
abbrev pub IsFirstSplit : List ℕ → List ℕ → List ℕ → Type 0
IsFirstSplit front back text =
    IsSplit front back text × ((f b : List ℕ) → IsSplit f b text → length front ≤ length f)

-- Whether the text before the first mark `::"` is the printed text of this name.
abbrev pub StartsWithName : NameParts → List ℕ → Type 0
StartsWithName n text = IsName n × ((back : List ℕ) × IsFirstSplit (printed_name n) back text)

-- Whether parsing a uid follows the order of the checks. First, missing marks give `NotNormalized`. Then, a text before
-- the first mark that is not a name gives `InvalidName`. Then the result is `NotNormalized` or a uid whose type has
-- that name.
abbrev pub FollowsChecks : Result EntityUID ParseErrors → List ℕ → Type 0
FollowsChecks (Ok u) text = StartsWithName (uid_parts u).name text
FollowsChecks (Err NotNormalized) text = HasMarks text → (n : NameParts) × StartsWithName n text
FollowsChecks (Err InvalidName) text = HasMarks text × ((n : NameParts) → StartsWithName n text → ⊥)
FollowsChecks (Err Memory) text = Unit {0}
