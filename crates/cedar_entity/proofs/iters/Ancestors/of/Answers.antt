use Rattle.std.proofs.Common.{refl}
use Rattle.cedar_entity.proofs.UidSteps.{lists_ascending}
use Rattle.cedar_entity.proofs.iters.Ancestors.of.Goals as goal

pub returns : goal.returns
returns c = record {
  first = c.iter.result;
  others = c.iter-2.result;
  in_turn = refl;
  parents = lists_ascending c.args.parents.now c.iter.result c.iter.ensures.members c.iter.ensures.ascending;
  indirect = lists_ascending c.args.indirect.now c.iter-2.result c.iter-2.ensures.members c.iter-2.ensures.ascending;
  parents_ascend = c.iter.ensures.ascending;
  indirect_ascend = c.iter-2.ensures.ascending;
}
