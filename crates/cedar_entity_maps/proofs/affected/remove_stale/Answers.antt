use Rattle.std.proofs.Common.{ap, not, sym, ◌∙◌}
use Rattle.std.specs.FinSet as set
use Rattle.cedar_entity_maps.specs.declared.affected.Lost.{Lost}
use Rattle.cedar_entity_maps.specs.laws.StaleUids.{is_lost}
use Rattle.cedar_entity_maps.specs.laws.AnyOf.{all_retained}
use Rattle.cedar_entity_maps.specs.laws.StaleUidLaws.{difference_kept}
use Rattle.cedar_entity_maps.proofs.affected.remove_stale.Goals as goal

pub returns-in-All : goal.returns-in-All
returns-in-All c = c.remove_all_indirect_ancestors.ensures ∙ λ i. record c.args.entity.now {
  indirect = all_retained c.args.entity.now.indirect (is_lost c.args.lost.now)
      (λ w. ap (λ (l : Lost). is_lost l w) c.in-All.is) i;
}

pub returns-in-These : goal.returns-in-These
returns-in-These c = c.remove_ancestors_of.ensures ∙ λ i. record c.args.entity.now {
  indirect = (difference_kept c.args.entity.now.indirect c.in-These.uids
      ∙ ap (λ (l : Lost). set.retain c.args.entity.now.indirect (λ p. not (is_lost l p))) (sym c.in-These.is)) i;
}
