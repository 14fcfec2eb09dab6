-- Equality of bindings.
use Rattle.std.specs.Prelude.{Bool}
use Rattle.std.specs.List.{list_all}
use Rattle.std.specs.Option.{option_eq}
use Rattle.cedar_ids.specs.Uid.{uid_eq}
use Rattle.cedar_terms.specs.SlotTree.{all_slots}
use Rattle.cedar_binding.specs.Bindings.{EnvParts}

-- Whether each slot is bound to equal uids in both, or in neither.
abbrev pub same_env : EnvParts → EnvParts → Bool
same_env e g = list_all (λ s. option_eq uid_eq (e s) (g s)) all_slots
