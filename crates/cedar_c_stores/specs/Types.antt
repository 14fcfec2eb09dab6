-- The reason why a text is not the name of a type.
use Rattle.std.specs.Prelude.{◌≡◌, ◌⊎◌, ℕ, List}
use Rattle.cedar_c_lists.specs.Uids.{IsNoName}
use Rattle.cedar_c_lists.specs.declared.reason.Reason.{Reason}
use Rattle.cedar_c_lists.specs.declared.reason.Reason.TheVariants.{NoMemory, NotAName}

-- Holds if w is the reason why a text is not parsed as the name of a type: an allocation failure, or it is not a name.
abbrev pub IsNoType : List ℕ → Reason → Type 0
IsNoType type w = (w ≡ NoMemory) ⊎ ((w ≡ NotAName) × IsNoName type)
