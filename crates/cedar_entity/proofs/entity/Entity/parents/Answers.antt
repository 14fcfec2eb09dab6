use Rattle.std.proofs.Common.{ap, ◌∙◌}
use Rattle.std.specs.FinSet as set
use Rattle.cedar_entity.specs.View.{EntityView}
use Rattle.cedar_entity.proofs.UidSteps.{lists_ascending}
use Rattle.cedar_entity.proofs.entity.Entity.parents.Goals as goal

pub returns-clause-lists : goal.returns-clause-lists
returns-clause-lists c =
    lists_ascending c.args.self.now.parents c.iter.result (λ q. c.iter.ensures.members q
    ∙ ap (λ (e : EntityView). set.contains e.parents q) c.self.view_is) c.iter.ensures.ascending
