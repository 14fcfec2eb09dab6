use Rattle.std.proofs.Common.{ap}
use Rattle.std.specs.FinMap as finmap
use Rattle.cedar_entities.proofs.Alike.{copied, copied_match}
use Rattle.cedar_entities.proofs.entities.copy_of_map.Goals as goal

pub returns-clause-entities : goal.returns-clause-entities
returns-clause-entities g c =
    ap (λ es. finmap.from_entries es) (copied _
    (λ p q h. h) c.args.entities.now.entries c.in_ok-copy.copy.entries c.in_ok-copy.ensures.cases)

pub returns-clause-keys : goal.returns-clause-keys
returns-clause-keys g c = copied_match c.args.entities.now c.in_ok-copy.copy (returns-clause-entities g c) c.requires
