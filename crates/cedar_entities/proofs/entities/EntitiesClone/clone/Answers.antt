use Rattle.std.proofs.Common.{subst, sym}
use Rattle.cedar_entity_maps.specs.laws.EntityMap.{held_map}
use Rattle.cedar_entity_maps.specs.laws.Indexes.{IsIndexOf, IsPlainHeld}
use Rattle.cedar_entities.proofs.entities.EntitiesClone.clone.Goals as goal

pub invariant_of-result : goal.invariant_of-result
invariant_of-result g c = (
  c.in_ok-copy_of_map.ensures.keys,
  subst (λ x. IsIndexOf x (held_map c.in_ok-copy_of_map.field-0)) (sym c.unlisted.ensures)
      (record {
        plain = λ t. subst IsPlainHeld (sym c.in_ok-copy_of_map.ensures.entities) (c.self.invariant.1.plain t);
        children = tt;
      }),
)
