-- The merge of the other set into the current one.
use Rattle.std.specs.Prelude.{ℕ, List, Bool, Result, Ok, Err}
use Rattle.std.proofs.Common.{ap, refl, inl, inr}
use Rattle.cedar_policy_maps.specs.PolicySets.{SetParts}
use Rattle.cedar_policy_merge.specs.Merge as sets
use Rattle.cedar_policy_set.specs.Steps.{occupied}
use Rattle.cedar_policy_set_errors.specs.declared.err.PolicySetError.{PolicySetError}
use Rattle.cedar_policy_set_errors.specs.declared.err.PolicySetError.TheVariants.{Occupied, Memory}
use Rattle.cedar_policy_lines.specs.TwoSets.{TwoSets, with_current}
use Rattle.cedar_policy_lines.specs.PolicyCommand.{Merge}
use Rattle.cedar_policy_lines.specs.PolicyOutput.{merged_line, refused_line, PolicyWrites}
use Rattle.cedar_policy_lines.specs.laws.Machines.{SaidMerged}

pub merge_writes : {A : Type 0} (entries : A → List (List ℕ × List ℕ)) (r : Result A PolicySetError) (rename : Bool)
    (old : TwoSets) (now : SetParts) (before after : List ℕ)
    → sets.Merges entries r old.current old.aside rename now → SaidMerged entries r before after
    → PolicyWrites (Merge rename) old (with_current old now) before after
merge_writes entries (Ok a) rename old now before after m said =
    (merged_line (entries a), inr (entries a, m.0, m.2, ap (with_current old) m.1, refl), said)
merge_writes entries (Err (Occupied i)) rename old now before after m said = (
  refused_line (occupied i),
  inl (i, m.2, m.1, m.3, (λ j. record { current = m.0 j; aside = old.aside }), refl),
  said,
)
merge_writes entries (Err Memory) rename old now before after m said = absurd said
