use Rattle.std.proofs.Common.{sym, subst, ◌∙◌}
use Rattle.std.specs.Prelude.{IsTrue}
use Rattle.cedar_uid_sets.proofs.Search.{past_all, less}
use Rattle.cedar_uid_sets.proofs.order.is_past_all.Goals as goal

pub returns : goal.returns
returns c =
    λ h. past_all _ _ c.requires c.in-Some.last.now (sym c.in-Some.ensures.value) (sym c.order.ensures
    ∙ less c.order.result (subst IsTrue c.is_lt.ensures h))
