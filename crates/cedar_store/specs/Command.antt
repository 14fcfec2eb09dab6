-- The commands of the program, and the line of each command.
use Rattle.std.specs.Prelude.{◌≡◌, ℕ, List, [], ◌∷◌, ◌==◌, IsTrue}
use Rattle.std.specs.List.{slice_split, list_all}
use Rattle.cedar_lines.specs.Lines.{is_line_byte}
use Rattle.cedar_entity_lines.specs.EntityCommand.{EntityCommand, IsEntityCommand}
use Rattle.cedar_policy_lines.specs.PolicyCommand.{PolicyCommand, IsPolicyCommand}

-- A command: `Nothing` is the command of an empty line. The others are the commands on the store and on policy sets.
pub data Command : Type 0 where
  Nothing : Command
  Entity : EntityCommand → Command
  Policy : PolicyCommand → Command

-- Whether these fields are a line of this command. An empty line has one empty field.
abbrev pub IsCommand : Command → List (List ℕ) → Type 0
IsCommand Nothing fs = fs ≡ [] ∷ []
IsCommand (Entity c) fs = IsEntityCommand c fs
IsCommand (Policy c) fs = IsPolicyCommand c fs

-- Whether a line is this command. The line has only tabs and printable ASCII characters, and its fields are separated
-- by tabs.
abbrev pub IsLine : Command → List ℕ → Type 0
IsLine c line = IsTrue (list_all is_line_byte line) × IsCommand c (slice_split (λ b. b == 9) line)
