use Rattle.std.proofs.Common.{◌∙◌, ap}
use Rattle.std.specs.List.{list_any}
use Rattle.cedar_entity.specs.View.{has_ancestor}
use Rattle.cedar_entity_maps.specs.laws.EntityMap.{entity_at}
use Rattle.cedar_entity_maps.specs.laws.StaleUids.{takes}
use Rattle.cedar_entity_maps.specs.laws.StaleUidLaws.{any_hit}
use Rattle.cedar_entity_maps.proofs.affected.stale_ancestors_of.Goals as goal

pub returns-clause-lost : goal.returns-clause-lost
returns-clause-lost g c w =
    c.in_ok-lost.ensures w ∙ ap (list_any (λ u. takes (entity_at c.args.entities.now) u w)) c.deref.ensures.value
    ∙ any_hit (has_ancestor c.args.entity.now)
    (λ u. takes (entity_at c.args.entities.now) u w) c.in_ok-hits.hits.items c.args.uids.now c.in_ok-hits.ensures
