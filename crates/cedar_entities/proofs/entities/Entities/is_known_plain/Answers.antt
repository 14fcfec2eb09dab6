use Rattle.std.proofs.Common.{ap, subst}
use Rattle.cedar_entity_maps.specs.Plain.{StoreView}
use Rattle.cedar_entity_maps.specs.laws.Indexes.{IsPlainHeld}
use Rattle.cedar_entities.proofs.entities.Entities.is_known_plain.Goals as goal

pub returns-clause-plain : goal.returns-clause-plain
returns-clause-plain g c =
    λ t. subst IsPlainHeld (ap (λ (s : StoreView). s.entities) c.self.view_is) (c.self.invariant.1.plain t)
