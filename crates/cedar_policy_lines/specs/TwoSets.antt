-- The two policy sets of the program.
use Rattle.cedar_policy_maps.specs.PolicySets.{SetParts, empty_set}

-- Two policy sets: the current set, which commands change, and the other set.
pub record TwoSets : Type 0 where
  pub current : SetParts
  pub aside : SetParts

-- Two empty sets.
abbrev pub no_sets : TwoSets
no_sets = record { current = empty_set; aside = empty_set }

-- The two sets with another current set.
abbrev pub with_current : TwoSets → SetParts → TwoSets
with_current b c = record { current = c; aside = b.aside }

-- The two sets swapped.
abbrev pub swapped : TwoSets → TwoSets
swapped b = record { current = b.aside; aside = b.current }
