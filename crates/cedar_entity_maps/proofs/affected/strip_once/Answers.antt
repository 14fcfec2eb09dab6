use Rattle.std.proofs.Common.{ap, not, ◌∙◌}
use Rattle.std.specs.FinSet as set
use Rattle.cedar_entity.specs.View.{EntityView}
use Rattle.cedar_entity_maps.specs.laws.StaleUids.{is_lost}
use Rattle.cedar_entity_maps.specs.laws.StaleUidLaws.{difference_kept}
use Rattle.cedar_entity_maps.proofs.affected.strip_once.Goals as goal

pub returns : goal.returns
returns c =
    c.remove_parents_of.ensures
    ∙ ap (λ (e : EntityView). record e { parents = set.difference e.parents c.args.removed.now }) c.remove_stale.ensures
    ∙ λ i. record c.args.entity.now {
      parents = difference_kept c.args.entity.now.parents c.args.removed.now i;
      indirect = set.retain c.args.entity.now.indirect (λ w. not (is_lost c.args.lost.now w));
    }
