use Rattle.std.proofs.Common.{subst}
use Rattle.std.specs.Prelude.{IfOk}
use Rattle.cedar_entity_maps.specs.Affected.{removed_from}
use Rattle.cedar_entity_diff.specs.laws.Parts.{IsPartAt}
use Rattle.cedar_entity_diff.proofs.parts.part_for_remove.Goals as goal

pub returns-clause-ok : goal.returns-clause-ok
returns-clause-ok g c =
    let S = c.args.store.now in
    let r = c.part_at.result in
    subst (λ us. IfOk r (IsPartAt S us (removed_from S.entities c.args.list.now))) c.in_ok-uids.ensures
    (subst (λ A. IfOk r (IsPartAt S c.in_ok-uids.uids.items A)) c.in_ok-removed.ensures c.part_at.ensures.ok)
