use Rattle.std.proofs.Common.{sym, subst, map}
use Rattle.cedar_entities.specs.Answers.{ListsEntityMap}
use Rattle.cedar_entity_maps.specs.laws.EntityMap.{held_map, shared}
use Rattle.cedar_entities.proofs.Listed.{lists_held}
use Rattle.cedar_entities.proofs.store_iters.Iter.of.Goals as goal

pub returns : goal.returns
returns g c =
    subst (λ es. ListsEntityMap (held_map c.args.entities.now) (map (λ e. shared e.1) es)) (sym c.iter.ensures.rest)
    (lists_held c.args.entities.now c.requires c.iter.ensures.found c.iter.ensures.unique)
