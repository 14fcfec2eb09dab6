use Rattle.std.proofs.Common.{ap, sym, ◌∙◌}
use Rattle.std.specs.FinSet as set
use Rattle.std.proofs.lemmas.Bool.Decides.{Decides-eqb}
use Rattle.cedar_ids.specs.UidOf.{uid_order}
use Rattle.cedar_uid_sets.proofs.uid_set.UidSet.is_empty.Goals as goal

pub returns : goal.returns
returns c = (
  λ h. set.empty_of_len _ (sym c.len.ensures ∙ (Decides-eqb c.len.result 0).0 h),
  λ e. (Decides-eqb c.len.result 0).1 (c.len.ensures ∙ ap set.len e ∙ set.len-empty uid_order),
)
