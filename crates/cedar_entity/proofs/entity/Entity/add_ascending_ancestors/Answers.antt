use Rattle.std.proofs.Common.{rules}
use Rattle.cedar_entity.proofs.AncestorSets.{no_parent_in_row}
use Rattle.cedar_entity.proofs.entity.Entity.add_ascending_ancestors.Goals as goal

pub returns-clause-ok : goal.returns-clause-ok
returns-clause-ok c = rw (← no_parent_in_row c.args.self.now c.args.shared.items c.requires.new) (search rules)
