use Rattle.std.specs.Option.{option_map}
use Rattle.cedar_ids.specs.UidOf.{uid_parts}
use Rattle.cedar_binding.proofs.slot_env.fitted_bindings.Goals as goal

pub returns : goal.returns
returns c = λ j s. option_map uid_parts (c.shrink_to_fit.ensures.entries.2 s j)
