use Rattle.cedar_entity.proofs.FieldLists.{ascending_entries}
use Rattle.cedar_entity.proofs.iters.Pairs.of.Goals as goal

pub returns-clause-ascending : goal.returns-clause-ascending
returns-clause-ascending c = ascending_entries c.args.fields.now.entries c.iter.ensures.ordered
