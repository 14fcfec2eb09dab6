-- Every input has one output.
use Rattle.std.specs.Prelude.{◌≡◌, ℕ, ◌+◌, ◌==◌, ◌⊎◌, List, [], ◌∷◌, Bool, true, false, Option, Some, None}
use Rattle.std.proofs.Common.{sym, refl, ◌∙◌, inl, inr}
use Rattle.std.specs.List.{slice_split, list_all}
use Rattle.cedar_lines.specs.Lines.{is_line_byte}
use Rattle.cedar_entity_lines.specs.EntityCommand.{IsEntityCommand}
use Rattle.cedar_entity_lines.specs.laws.OneAnswer.{entity_gives}
use Rattle.cedar_entity_lines.specs.laws.ReadCommands.{Found, entity_command_found}
use Rattle.cedar_policy_lines.specs.PolicyCommand.{PolicyCommand, IsPolicyCommand}
use Rattle.cedar_policy_lines.specs.laws.OneAnswer.{policy_gives}
use Rattle.cedar_policy_lines.specs.laws.PolicyReading.{policy_command}
use Rattle.cedar_policy_lines.specs.laws.ReadCommands.{command_is_read, read_is_command}
use Rattle.cedar_store.specs.Command.{Command, Nothing, Entity, Policy, IsCommand, IsLine}
use Rattle.cedar_store.specs.Output.{State, Written, RunsCommand, IsOutput, IsOutputFrom, HasOneOutput, start, after}
use Rattle.cedar_store.specs.Output.{not_command}
use Rattle.cedar_store.proofs.Joined.{none_found}
use Rattle.cedar_store.proofs.OneOutput.{one_output}

-- ---- The command of a line

read_so : (fs : List (List ℕ)) (o : Option PolicyCommand) → policy_command fs ≡ o → Found (λ c. IsPolicyCommand c fs)
read_so fs (Some c) e = inl (c, read_is_command fs c e)
read_so fs None e = inr (λ c h. let g : None ≡ Some c = sym e ∙ command_is_read c fs h in cc)

policy_found : (fs : List (List ℕ)) → Found (λ c. IsPolicyCommand c fs)
policy_found fs = read_so fs (policy_command fs) refl

nothing_found : (fs : List (List ℕ)) → (fs ≡ [] ∷ []) ⊎ (fs ≡ [] ∷ [] → ⊥)
nothing_found [] = inr (λ e. cc)
nothing_found ([] ∷ []) = inl refl
nothing_found ((b ∷ w) ∷ []) = inr (λ e. cc)
nothing_found (w ∷ t ∷ ts) = inr (λ e. cc)

found_by : (fs : List (List ℕ)) → (fs ≡ [] ∷ []) ⊎ (fs ≡ [] ∷ [] → ⊥) → Found (λ c. IsEntityCommand c fs)
    → Found (λ c. IsPolicyCommand c fs) → Found (λ c. IsCommand c fs)
found_by fs (inl e) entity policy = inl (Nothing, e)
found_by fs (inr nothing) (inl c) policy = inl (Entity c.0, c.1)
found_by fs (inr nothing) (inr entity) (inl c) = inl (Policy c.0, c.1)
found_by fs (inr nothing) (inr entity) (inr policy) = inr (none_found fs nothing entity policy)

command_found : (fs : List (List ℕ)) → Found (λ c. IsCommand c fs)
command_found fs = found_by fs (nothing_found fs) (entity_command_found fs) (policy_found fs)

readable_line : (b : Bool) (fs : List (List ℕ)) → Found (λ c. IsCommand c fs) → Found (λ c. (b ≡ true) × IsCommand c fs)
readable_line true fs (inl c) = inl (c.0, (refl, c.1))
readable_line true fs (inr none) = inr (λ c h. none c h.1)
readable_line false fs f = inr (λ c h. let e = h.0 in cc)

-- The command of a line, or the fact that it is not a command.
line_found : (l : List ℕ) → Found (λ c. IsLine c l)
line_found l = readable_line (list_all is_line_byte l) (slice_split (λ b. b == 9) l)
    (command_found (slice_split (λ b. b == 9) l))

-- ---- The effect of a command

gives : (s : State) (c : Command) → (t : State) × (out : List ℕ) × RunsCommand s c t out
gives s Nothing = (s, [], (refl, refl))
gives s (Entity c) = let a = entity_gives c s.entities in
    (record { entities = a.0; policy_sets = s.policy_sets }, a.1, (a.2, refl))
gives s (Policy c) = let a = policy_gives c s.policy_sets in
    (record { entities = s.entities; policy_sets = a.0 }, a.1, (refl, a.2))

-- ---- The lines

from : (ls : List (List ℕ)) (n : ℕ) (s : State) → (w : Written) × IsOutputFrom n s ls w
unfolding IsOutputFrom
from [] n s = (record { bytes = []; status = 0 }, refl)
from (l ∷ ls) n s = elim (line_found l) [
  | inl c ↦
      let g = gives s c.0 in
      let r = from ls (n + 1) g.0 in
      (after g.1 r.0, inl (c.0, g.0, g.1, r.0, c.1, g.2, r.1, refl))
  | inr none ↦ (record { bytes = not_command n; status = 2 }, inr (none, refl))
]

-- Every input has an output.
has_output : (input : List ℕ) → (w : Written) × IsOutput input w
has_output input = from (slice_split (λ b. b == 10) input) 1 start

-- Every input has exactly one output.
pub has_one_output : HasOneOutput
has_one_output input = let h = has_output input in (h.0, h.1, λ v k. one_output input v h.0 k h.1)
