-- The effect of a command, and of the fields of a line, on a session.
use Rattle.std.specs.Prelude.{◌≡◌, ℕ, Bool, true, false, List, [], ◌∷◌, ◌++◌, codes}
use Rattle.cedar_ids.specs.Texts.{same_text}
use Rattle.cedar_store.specs.Command.{Command, IsCommand}
use Rattle.cedar_store.specs.Output.{State, RunsCommand}
use Rattle.cedar_store.specs.Sessions.{SessionView, IsInState}

-- Whether a session runs this command: it is in the next state, and the command's output is appended.
abbrev pub SessionGives : Command → State → SessionView → List ℕ → List ℕ → Type 0
SessionGives c s v old new = (t : State) × (out : List ℕ) × RunsCommand s c t out × IsInState v t × (new ≡ old ++ out)

-- Whether a session runs these fields if they are a command of one kind. Otherwise its state is the same, and nothing
-- is appended.
abbrev pub TakesKind : {A : Type 0} → (A → Command) → Bool → List (List ℕ) → State → SessionView → List ℕ → List ℕ
    → Type 0
TakesKind {A} kind true fs s v old new = (a : A) × IsCommand (kind a) fs × SessionGives (kind a) s v old new
TakesKind {A} kind false fs s v old new = ((a : A) → IsCommand (kind a) fs → ⊥) × IsInState v s × (new ≡ old)

-- Whether the first field is `ent`.
abbrev pub begins_with_ent : List (List ℕ) → Bool
begins_with_ent [] = false
begins_with_ent (f ∷ fs) = same_text f (codes "ent")
