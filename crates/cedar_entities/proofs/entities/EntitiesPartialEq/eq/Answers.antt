use Rattle.cedar_entities.proofs.UidsAlike.{answers_same}
use Rattle.cedar_entities.proofs.entities.EntitiesPartialEq.eq.Goals as goal

pub returns-clause-value : goal.returns-clause-value
returns-clause-value g c = answers_same c.has_same_uids.result c.args.self.now c.args.other.now c.has_same_uids.ensures
