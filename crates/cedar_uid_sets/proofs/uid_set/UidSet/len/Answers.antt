use Rattle.std.proofs.Common.{ap, sym, ◌∙◌}
use Rattle.std.specs.FinSet as set
use Rattle.cedar_uid_sets.proofs.Edits.{len_listed}
use Rattle.cedar_uid_sets.proofs.uid_set.UidSet.len.Goals as goal

pub returns : goal.returns
returns c = sym (len_listed c.pointers.result.now c.pointers.ensures.ascending) ∙ ap set.len c.pointers.ensures.all
