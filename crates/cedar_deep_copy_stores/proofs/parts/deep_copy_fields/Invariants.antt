use Rattle.std.specs.Prelude.{◌≡◌, map}
use Rattle.cedar_entity.specs.Fields.{fields_of}
use Rattle.cedar_deep_copy_stores.proofs.parts.deep_copy_fields.Given as goal

abbrev pub invariant-loop-key : goal.invariant-loop-key
invariant-loop-key l = fields_of l.copies.items ≡ map (λ x. (x.0.now, x.1.now)) l.yielded
