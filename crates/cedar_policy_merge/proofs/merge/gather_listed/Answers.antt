use Rattle.std.proofs.Common.{sym, ap, ◌∙◌}
use Rattle.indexmap.specs.IndexSet.{insert_all}
use Rattle.cedar_ids.specs.Texts.{same_text}
use Rattle.cedar_policy_merge.proofs.merge.gather_listed.Goals as goal

pub loop-id-preserved : goal.loop-id-preserved
loop-id-preserved g c =
    ap (λ seen. insert_all same_text seen c.next.new.self.rest.items) c.in_ok-insert.ensures.keys
    ∙ ap (insert_all same_text c.loop-id.ids.keys) (sym c.in-Some.ensures.steps.0)
    ∙ c.loop-id.invariant
