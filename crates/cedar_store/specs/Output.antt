-- The output of the program for an input.
--
-- Input and output are lists of bytes. The program runs the lines of the input one after another, each in the state
-- that the line before it left. Its output is the output of all lines in order. `IsOutput` states this, and
-- `HasOneOutput` states that each input has exactly one output.
use Rattle.std.specs.Prelude.{◌≡◌, ◌⊎◌, ℕ, ◌+◌, List, [], ◌∷◌, ◌++◌, codes, ◌==◌}
use Rattle.std.specs.List.{slice_split}
use Rattle.std.specs.Fmt.{decimal}
use Rattle.cedar_lines.specs.Lines.{written_line}
use Rattle.cedar_entity_lines.specs.EntityOutput.{EntityState, no_entity, RunsEntityCommand}
use Rattle.cedar_policy_lines.specs.TwoSets.{TwoSets, no_sets}
use Rattle.cedar_policy_lines.specs.PolicyOutput.{RunsPolicyCommand}
use Rattle.cedar_store.specs.Command.{Command, Nothing, Entity, Policy, IsLine}

-- The state between two lines: the queued entities with the input store that the program's store is computed from, and
-- the two policy sets.
pub record State : Type 0 where
  pub entities : EntityState
  pub policy_sets : TwoSets

-- The state before the first line. The queue, the store and both policy sets are empty.
abbrev pub start : State
start = record { entities = no_entity; policy_sets = no_sets }

-- Whether a command in the state `s` leads to the state `t` and writes `out`. `Nothing` changes and writes nothing. A
-- command on the store leaves the policy sets unchanged, and a command on policy sets leaves the store unchanged.
abbrev pub RunsCommand : State → Command → State → List ℕ → Type 0
RunsCommand s Nothing t out = (t ≡ s) × (out ≡ [])
RunsCommand s (Entity c) t out = RunsEntityCommand c s.entities t.entities out × (t.policy_sets ≡ s.policy_sets)
RunsCommand s (Policy c) t out = (t.entities ≡ s.entities) × RunsPolicyCommand c s.policy_sets t.policy_sets out

-- The output of a run: all bytes that it writes, and its status.
pub record Written : Type 0 where
  pub bytes : List ℕ
  pub status : ℕ

-- An output with more bytes before it.
abbrev pub after : List ℕ → Written → Written
after out w = record { bytes = out ++ w.bytes; status = w.status }

-- The message for line `n`, which is not a command. Example: `line 3: not a command` and a line feed.
abbrev pub not_command : ℕ → List ℕ
not_command n = written_line (codes "line " ++ (decimal n ++ codes ": not a command"))

-- Whether `w` is the output of some lines. The first line has the number `n`, and `s` is the state before it:
--
-- - There is no line: the output is empty, with status 0.
-- - The first line is a command: its output comes first. The output of the other lines, in the next state, follows.
-- - The first line is not a command: the output is its message, with status 2. The other lines are ignored.
unfoldable pub IsOutputFrom : ℕ → State → List (List ℕ) → Written → Type 0
IsOutputFrom n s [] w = w ≡ record { bytes = []; status = 0 }
IsOutputFrom n s (l ∷ ls) w =
    ((c : Command) × (t : State) × (out : List ℕ) × (v : Written)
    × IsLine c l × RunsCommand s c t out × IsOutputFrom (n + 1) t ls v × (w ≡ after out v))
    ⊎ (((c : Command) → IsLine c l → ⊥) × (w ≡ record { bytes = not_command n; status = 2 }))

-- Whether `w` is the output of this input. The lines are separated by line feeds, and their numbers start with 1. The
-- bytes after the last line feed are a line too. If there are no such bytes, this last line is empty.
abbrev pub IsOutput : List ℕ → Written → Type 0
IsOutput input w = IsOutputFrom 1 start (slice_split (λ b. b == 10) input) w

-- Every input has exactly one output.
abbrev pub HasOneOutput : Type 0
HasOneOutput = (input : List ℕ) → (w : Written) × IsOutput input w × ((v : Written) → IsOutput input v → v ≡ w)
