use Rattle.std.proofs.Common.{ap, sym, subst, ◌∙◌, ◌||◌}
use Rattle.std.specs.FinSet as set
use Rattle.std.specs.Set.{is_member}
use Rattle.cedar_ids.specs.UidOf.{same_uid}
use Rattle.cedar_uid_sets.specs.UidSets.{Ascend}
use Rattle.cedar_uid_sets.specs.laws.Sets.{contains_listed}
use Rattle.cedar_uid_sets.specs.laws.Unions.{union_ascends, union_has}
use Rattle.cedar_uid_sets.proofs.uid_set.UidSet.union.Goals as goal

pub returns-clause-members : goal.returns-clause-members
returns-clause-members c q =
    ap (λ l. is_member same_uid l q) c.of.ensures ∙ union_has c.pointers.result.now c.pointers-2.result.now q
    ∙ λ i. (sym (contains_listed c.pointers.result.now q) ∙ ap (λ s. set.contains s q) c.pointers.ensures.all) i
    || (sym (contains_listed c.pointers-2.result.now q) ∙ ap (λ s. set.contains s q) c.pointers-2.ensures.all) i

pub returns-clause-ascending : goal.returns-clause-ascending
returns-clause-ascending c =
    subst Ascend (sym c.of.ensures)
    (union_ascends c.pointers.result.now c.pointers-2.result.now c.pointers.ensures.ascending
    c.pointers-2.ensures.ascending)
