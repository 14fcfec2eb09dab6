-- The result of reading a field or a line.
use Rattle.std.specs.Prelude.{Option, MatchOption}

-- Whether a result of reading is correct. A value that was read satisfies `Fits`. If nothing was read, no value
-- satisfies it.
abbrev pub ReadsAs : {A B : Type 0} → (B → Type 0) → (A → B) → Option A → Type 0
ReadsAs {A} {B} Fits value o = MatchOption o ((b : B) → Fits b → ⊥) (λ a. Fits (value a))
