use Rattle.std.proofs.Common.{ap, sym, subst, ◌∙◌}
use Rattle.std.specs.FinSet as set
use Rattle.cedar_uid_sets.specs.UidSets.{UidValues}
use Rattle.cedar_uid_sets.specs.laws.Sets.{contains_listed}
use Rattle.cedar_entity.specs.Listing.{ListsAncestors}
use Rattle.cedar_entity.specs.View.{EntityView}
use Rattle.cedar_entity.proofs.UidSteps.{lists_ascending}
use Rattle.cedar_entity.proofs.entity.Entity.shared_ancestors.Goals as goal

pub returns : goal.returns
returns c =
    let us = c.pointers.result.now in
    let vs = c.pointers-2.result.now in
    subst (λ (e : EntityView). ListsAncestors e c.of.result) c.self.view_is (record {
      first = us;
      others = vs;
      in_turn = c.of.ensures;
      parents = lists_ascending c.self.inside.parents us (λ q. sym (contains_listed us q)
          ∙ ap (λ (s : UidValues). set.contains s q) c.pointers.ensures.all) c.pointers.ensures.ascending;
      indirect = lists_ascending c.self.inside.indirect_ancestors vs (λ q. sym (contains_listed vs q)
          ∙ ap (λ (s : UidValues). set.contains s q) c.pointers-2.ensures.all) c.pointers-2.ensures.ascending;
      parents_ascend = c.pointers.ensures.ascending;
      indirect_ascend = c.pointers-2.ensures.ascending;
    })
