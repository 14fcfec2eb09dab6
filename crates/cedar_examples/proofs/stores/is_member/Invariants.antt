use Rattle.std.specs.Prelude.{◌≡◌, map}
use Rattle.cedar_entity_maps.specs.Plain.{HaveNoIndirect, input_of}
use Rattle.cedar_entity_maps.specs.InputStore.{input_entity}
use Rattle.cedar_examples.proofs.stores.is_member.Given as goal

abbrev pub invariant-loop-uid : goal.invariant-loop-uid
invariant-loop-uid l = record {
  inputs : map input_of l.entities.items ≡ map (λ m. input_entity m.0 m.1.items) l.yielded;
  bare : HaveNoIndirect l.entities.items;
}
