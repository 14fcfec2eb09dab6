use Rattle.std.proofs.Common.{◌≡◌}
use Rattle.cedar_entity.specs.Fields.{fields_of}
use Rattle.cedar_entity.specs.Validity.{reserved_in_fields}
use Rattle.cedar_entity.proofs.reserved.in_fields.Given as goal

abbrev pub invariant-loop-pair : goal.invariant-loop-pair
invariant-loop-pair l = reserved_in_fields (fields_of l.pair-iterator) ≡ reserved_in_fields (fields_of l.fields.entries)
