use Rattle.std.proofs.Common.{ap, subst}
use Rattle.cedar_entity_maps.specs.Plain.{StoreView, IsKeyed}
use Rattle.cedar_entities.proofs.StoreMaps.{seen_keyed}
use Rattle.cedar_entities.proofs.entities.Entities.iter.Goals as goal

pub returns-clause-keyed : goal.returns-clause-keyed
returns-clause-keyed g c =
    subst IsKeyed (ap (λ (s : StoreView). s.entities) c.self.view_is) (seen_keyed c.self.inside.entities c.self.invariant.0)
