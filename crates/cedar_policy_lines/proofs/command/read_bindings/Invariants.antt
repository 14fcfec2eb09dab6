use Rattle.std.proofs.Common.{◌≡◌, Some, map, drop, true}
use Rattle.cedar_terms.specs.declared.slot.SlotId.{SlotId}
use Rattle.cedar_binding.specs.Bindings.{binds}
use Rattle.cedar_binding.specs.Views.{env_of}
use Rattle.cedar_policy_lines.specs.laws.SlotFlagLaws.{is_named, named_alone}
use Rattle.cedar_policy_lines.specs.laws.PolicyReading.{bindings_from, bindings_of}
use Rattle.cedar_policy_lines.proofs.command.read_bindings.Given as goal

abbrev pub invariant-loop-field : goal.invariant-loop-field
invariant-loop-field l = (bindings_from (Some (named_alone l.named (env_of l.room.values)))
    (map (λ f. f.now) (drop l.field-index l.fields)) ≡ bindings_of (map (λ f. f.now) l.fields))
    × ((s : SlotId) → is_named l.named s ≡ true → binds (env_of l.room.values) s ≡ true)
