use Rattle.std.proofs.Common.{subst}
use Rattle.std.specs.Prelude.{IfOk}
use Rattle.cedar_entity_maps.specs.Plain.{entities_in}
use Rattle.cedar_entity_diff.specs.laws.Parts.{IsPartAt}
use Rattle.cedar_entity_diff.proofs.PartsOfStores.{edit_part}
use Rattle.cedar_entity_diff.proofs.parts.part_for_add.Goals as goal

pub returns-clause-ok : goal.returns-clause-ok
returns-clause-ok g c =
    let S = c.args.store.now in
    let L = entities_in c.args.list.now in
    let us = c.in_ok-uids.uids.items in
    edit_part S us _ L c.in_ok-uids.ensures c.part_at.result
    (subst (λ A. IfOk c.part_at.result (IsPartAt S us A)) c.in_ok-inserted.ensures c.part_at.ensures.ok)
