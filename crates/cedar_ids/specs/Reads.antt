-- The results of the functions that parse a text.
use Rattle.std.specs.Prelude.{◌≡◌, ℕ, List, Result, Ok, Err}
use Rattle.cedar_ids.specs.declared.err.ParseErrors.{ParseErrors}
use Rattle.cedar_ids.specs.declared.err.ParseErrors.TheVariants.{NotNormalized, InvalidName, Memory}
use Rattle.cedar_ids.specs.declared.entity.EntityType.{EntityType}
use Rattle.cedar_ids.specs.declared.entity.EntityUID.{EntityUID}
use Rattle.cedar_ids.specs.TextOf.{IsNameText, IsUnqualifiedText}
use Rattle.cedar_ids.specs.Views.{type_name}
use Rattle.cedar_ids.specs.UidOf.{uid_parts}

-- Whether a result is `Ok` with this value or `Memory`, and no other error.
abbrev pub IsOkUnlessMemory : {X : Type 0} → Result X ParseErrors → X → Type 0
IsOkUnlessMemory (Ok x) y = x ≡ y
IsOkUnlessMemory (Err NotNormalized) y = ⊥
IsOkUnlessMemory (Err InvalidName) y = ⊥
IsOkUnlessMemory (Err Memory) y = Unit {0}

-- Whether the text belongs to `x` and to no other value.
abbrev pub IsTextOfOne : {X : Type 0} → (X → List ℕ → Type 0) → X → List ℕ → Type 0
IsTextOfOne {X = X} IsText x text = IsText x text × ((y : X) → IsText y text → y ≡ x)

-- Whether the text belongs to no value.
abbrev pub IsTextOfNone : {X : Type 0} → (X → List ℕ → Type 0) → List ℕ → Type 0
IsTextOfNone {X = X} IsText text = (y : X) → IsText y text → ⊥

-- Whether a parser returned the right result for a text. `Ok` contains the only value with that text. `InvalidName`
-- means that no value has that text. `NotNormalized` is impossible. `Memory` implies nothing about the text.
abbrev pub Reads : {X : Type 0} → (X → List ℕ → Type 0) → Result X ParseErrors → List ℕ → Type 0
Reads IsText (Ok x) text = IsTextOfOne IsText x text
Reads IsText (Err InvalidName) text = IsTextOfNone IsText text
Reads IsText (Err NotNormalized) text = ⊥
Reads IsText (Err Memory) text = Unit {0}

-- Whether a text is the printed text of an entity type.
abbrev pub IsTypeText : EntityType → List ℕ → Type 0
IsTypeText t text = IsNameText (type_name t) text

-- Whether a uid has this eid and a type without a path, and the text is the text of that type.
abbrev pub IsTypeTextAndEid : List ℕ → EntityUID → List ℕ → Type 0
IsTypeTextAndEid eid u text = IsUnqualifiedText (uid_parts u).name text × ((uid_parts u).eid ≡ eid)
