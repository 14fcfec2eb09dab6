use Rattle.std.proofs.Common.{subst}
use Rattle.cedar_entity_maps.specs.laws.Ends.{Ends}
use Rattle.cedar_entity_maps.specs.laws.EntityMap.{held_map}
use Rattle.cedar_entity_maps.proofs.finalize.finalize_all.Goals as goal

pub returns-clause-ends : goal.returns-clause-ends
returns-clause-ends g c affected all = subst
    (λ r. Ends r affected (held_map c.args.entities.now) (held_map c.finish_all.new.entities) c.finish_all.result)
    c.rules_of.ensures (c.finish_all.ensures.ends affected all)
