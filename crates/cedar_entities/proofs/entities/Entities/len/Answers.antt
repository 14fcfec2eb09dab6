use Rattle.std.proofs.Common.{ap, ◌∙◌}
use Rattle.std.specs.FinMap as finmap
use Rattle.cedar_entity_maps.specs.Plain.{StoreView}
use Rattle.cedar_entities.proofs.StoreMaps.{len_seen}
use Rattle.cedar_entities.proofs.PlainLen.{plain_len}
use Rattle.cedar_entities.proofs.entities.Entities.len.Goals as goal

pub returns-clause-value : goal.returns-clause-value
returns-clause-value g c = c.len.ensures.len ∙ len_seen c.self.inside.entities c.len.ensures.unique
    ∙ ap (λ (s : StoreView). finmap.len s.entities) c.self.view_is

pub returns-clause-plain : goal.returns-clause-plain
returns-clause-plain g c W plain = c.len.ensures.len
    ∙ plain_len c.self.inside.entities W c.args.self.now
    (ap (λ (s : StoreView). s.entities) c.self.view_is) c.len.ensures.unique plain
