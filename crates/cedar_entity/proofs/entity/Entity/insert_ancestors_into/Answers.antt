use Rattle.std.proofs.Common.{ap, ◌||◌, ◌∙◌}
use Rattle.std.proofs.lemmas.Result.{on_ok_weaker}
use Rattle.std.specs.FinSet as set
use Rattle.cedar_uid_sets.specs.UidSets.{UidValues}
use Rattle.cedar_entity.specs.View.{EntityView, has_ancestor}
use Rattle.cedar_entity.proofs.AncestorSets.{ancestors_inserted}
use Rattle.cedar_entity.proofs.entity.Entity.insert_ancestors_into.Goals as goal

pub returns : goal.returns
returns c =
    let p = c.self.inside.parents in
    let i = c.self.inside.indirect_ancestors in
    let s = c.args.uids.now in
    on_ok_weaker c.extend_from-2.result (λ e q.
    ap (λ (t : UidValues). set.contains t q) e
    ∙ ap (λ (t : UidValues). set.contains (set.union t p) q) c.in_ok-extend_from.ensures
    ∙ ancestors_inserted p i s q
    ∙ ap (λ (v : EntityView). set.contains s q || has_ancestor v q) c.self.view_is)
    c.extend_from-2.ensures
