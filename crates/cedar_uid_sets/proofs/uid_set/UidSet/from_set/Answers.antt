use Rattle.std.proofs.Common.{subst, ◌∙◌}
use Rattle.std.specs.List.Sorted.{IsPermutation}
use Rattle.cedar_uid_sets.proofs.Sorting.{ascend_sorted, set_sorted}
use Rattle.cedar_uid_sets.proofs.uid_set.UidSet.from_set.Goals as goal

-- The uids were distinct, and they are sorted.
pub from_ascending-requires : goal.from_ascending-requires
from_ascending-requires g c =
    let moved =
    subst (λ us. IsPermutation us c.sort.new.self.items) c.in_ok-ascending.ensures.uids
    c.in_ok-sort.ensures.permutation in
    ascend_sorted c.args.uids.keys _ c.shared.ensures.once moved c.in_ok-sort.ensures.sorted

-- Sorting does not change the set.
pub returns : goal.returns
returns g c =
    let moved =
    subst (λ us. IsPermutation us c.sort.new.self.items) c.in_ok-ascending.ensures.uids
    c.in_ok-sort.ensures.permutation in
    c.from_ascending.ensures ∙ set_sorted c.args.uids.keys _ moved
