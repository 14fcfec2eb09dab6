use Rattle.std.proofs.Common.{ap, sym, ◌∙◌}
use Rattle.std.specs.FinSet as set
use Rattle.cedar_uid_sets.specs.UidSets.{UidValues}
use Rattle.cedar_uid_sets.specs.laws.Sets.{contains_listed}
use Rattle.cedar_entities.proofs.lists.pointers_of.Goals as goal

pub returns : goal.returns
returns c q = sym (contains_listed c.into_pointers.result.items q)
    ∙ ap (λ (s : UidValues). set.contains s q) (c.into_pointers.ensures.all ∙ c.in_ok-copy.ensures.cases)
