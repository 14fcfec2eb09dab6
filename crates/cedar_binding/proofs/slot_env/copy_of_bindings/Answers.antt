use Rattle.std.proofs.Common.{ap}
use Rattle.std.proofs.lemmas.Map.Entries.{entries_from_clone}
use Rattle.std.specs.Map.{lookup}
use Rattle.std.specs.Option.{option_map}
use Rattle.cedar_ids.specs.UidOf.{uid_parts}
use Rattle.cedar_terms.specs.SlotTree.{same_slot}
use Rattle.cedar_binding.proofs.Copies.{uid_copied}
use Rattle.cedar_binding.proofs.slot_env.copy_of_bindings.Goals as goal

pub returns : goal.returns
returns c =
    let same =
    entries_from_clone _ _ (λ s t h. h) uid_copied c.args.values.now.entries c.in_ok-copy.copy.entries
    c.in_ok-copy.ensures.cases in
    ap (λ es s. option_map uid_parts (lookup (same_slot s) es)) same
