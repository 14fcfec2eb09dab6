use Rattle.std.proofs.Common.{ap, not, sym, ◌∙◌}
use Rattle.std.specs.HashSet.{contains}
use Rattle.cedar_ids.specs.UidOf.{same_uid}
use Rattle.cedar_entity_maps.specs.laws.StaleUids.{loses}
use Rattle.cedar_entity_maps.proofs.AffectedLists.{listed_loss}
use Rattle.cedar_entity_maps.proofs.affected.push_all_indirect.Goals as goal

pub returns-clause-who : goal.returns-clause-who
returns-clause-who g c q =
    ap (λ l. loses l q) c.in_ok-push.ensures.items
    ∙ listed_loss c.args.stale.now.items _ c.args.key.now q (not (contains same_uid c.args.uids.now c.args.key.now))
    c.in_ok-clone.ensures.cases (ap not (sym c.contains.ensures ∙ c.if-contains.false))
