-- The effect of a line on a session.
use Rattle.std.specs.Prelude.{◌≡◌, ℕ, Bool, true, false, List, ◌++◌}
use Rattle.cedar_entity_lines.specs.Holding as held
use Rattle.cedar_policy_lines.specs.TwoSets.{TwoSets}
use Rattle.cedar_store.specs.Command.{Command, IsLine}
use Rattle.cedar_store.specs.Output.{State, RunsCommand}

-- The value of a session: the store with its queued entities, the two policy sets, and whether the session is lost.
pub record SessionView : Type 0 where
  pub entities : held.StoreAndWaiting
  pub policy_sets : TwoSets
  pub is_lost : Bool

-- Whether a session is lost, because an allocation failed.
abbrev pub IsLost : SessionView → Type 0
IsLost v = v.is_lost ≡ true

-- Whether a session is in a state. The session's store and queue have the content of the state, the policy sets are
-- equal, and the session is not lost.
pub record IsInState (v : SessionView) (s : State) : Type 0 where
  pub entities : held.Holds v.entities s.entities
  pub policy_sets : v.policy_sets ≡ s.policy_sets
  pub whole : v.is_lost ≡ false

-- Whether a session runs a line correctly, given the state `s` before it and the returned truth value. After a command
-- the session is in the next state, and the command's output is appended. After any other line the session is in the
-- same state, and nothing is appended.
abbrev pub RunsLine : Bool → List ℕ → State → SessionView → List ℕ → List ℕ → Type 0
RunsLine true line s v old new = (c : Command) × (t : State) × (out : List ℕ) × IsLine c line × RunsCommand s c t out
    × IsInState v t × (new ≡ old ++ out)
RunsLine false line s v old new = ((c : Command) → IsLine c line → ⊥) × IsInState v s × (new ≡ old)
