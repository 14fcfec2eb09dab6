-- The output of the parts of `PolicySets`.
use Rattle.std.specs.Prelude.{◌≡◌, ℕ, Bool, true, false, List, ◌++◌, Option, Some, None, Result, Ok, Err, codes}
use Rattle.cedar_lines.specs.Lines.{written_line}
use Rattle.cedar_policy_set_errors.specs.declared.err.PolicySetError.{PolicySetError}
use Rattle.cedar_policy_set.specs.Refusals.{set_error_of}
use Rattle.cedar_policy_set.specs.Steps.{Refusal}
use Rattle.cedar_policy_lines.specs.PolicyCommand.{PolicyCommand}
use Rattle.cedar_policy_lines.specs.PolicyOutput.{PolicyWrites, ok_line, merged_line, refused_line}
use Rattle.cedar_policy_lines.specs.TwoSets.{TwoSets}

-- The line of an error with these words and this text of an id.
abbrev pub refused_with : List ℕ → List ℕ → List ℕ
refused_with words id = written_line (codes "refused: " ++ (words ++ id))

-- Whether an error appends its line. An allocation failure ends the run, and appends no line.
abbrev pub SaidBy : Option Refusal → List ℕ → List ℕ → Type 0
SaidBy None old new = ⊥
SaidBy (Some r) old new = new ≡ old ++ refused_line r

-- Whether a result appends its line.
abbrev pub Said : {A E : Type 0} → (E → Option Refusal) → Result A E → List ℕ → List ℕ → Type 0
Said told (Ok a) old new = new ≡ old ++ ok_line
Said told (Err e) old new = SaidBy (told e) old new

-- Whether the result of a merge appends its line: the renamed ids, or the error.
abbrev pub SaidMerged : {A : Type 0} → (A → List (List ℕ × List ℕ)) → Result A PolicySetError → List ℕ → List ℕ → Type 0
SaidMerged entries (Ok a) old new = new ≡ old ++ merged_line (entries a)
SaidMerged entries (Err e) old new = SaidBy (set_error_of e) old new

-- Whether a command that was read is run. If no command was read, nothing changes.
abbrev pub TakesAs : Option PolicyCommand → Bool → TwoSets → TwoSets → List ℕ → List ℕ → Type 0
TakesAs o true old new before after = (c : PolicyCommand) × (o ≡ Some c) × PolicyWrites c old new before after
TakesAs o false old new before after = (o ≡ None) × (new ≡ old) × (after ≡ before)
