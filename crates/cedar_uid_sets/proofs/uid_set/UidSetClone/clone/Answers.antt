use Rattle.std.proofs.Common.{ap, sym, subst, ◌∙◌}
use Rattle.std.specs.FinSet as set
use Rattle.cedar_uid_sets.specs.UidSets.{Ascend}
use Rattle.std.specs.List.{each_same}
use Rattle.cedar_uid_sets.proofs.uid_set.UidSetClone.clone.Goals as goal

pub invariant_of-result : goal.invariant_of-result
invariant_of-result c =
    subst Ascend (sym (each_same c.self.inside.uids.items c.in_ok-copy.copy.items c.in_ok-copy.ensures.cases.0))
    c.self.invariant

pub returns : goal.returns
returns c =
    record {
      cases = ap (λ us. set.from_list us)
          (each_same c.self.inside.uids.items c.in_ok-copy.copy.items c.in_ok-copy.ensures.cases.0) ∙ c.self.view_is;
    }
