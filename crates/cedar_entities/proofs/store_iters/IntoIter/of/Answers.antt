use Rattle.std.proofs.Common.{sym, subst, map}
use Rattle.cedar_entities.specs.Answers.{ListsEntityMap}
use Rattle.cedar_entity_maps.specs.laws.EntityMap.{held_map, shared}
use Rattle.cedar_entities.proofs.Listed.{lists_held}
use Rattle.cedar_entities.proofs.store_iters.IntoIter.of.Goals as goal

pub returns : goal.returns
returns g c =
    subst (λ es. ListsEntityMap (held_map c.args.entities) (map (λ e. shared e.1) es))
    (sym c.into_iter.ensures.into_iter_gives.0)
    (lists_held c.args.entities c.requires c.iter.ensures.found c.iter.ensures.unique)
