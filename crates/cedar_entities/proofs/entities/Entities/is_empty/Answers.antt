use Rattle.std.proofs.Common.{ap, sym, ◌∙◌}
use Rattle.std.proofs.lemmas.Bool.{eq-eqb, eqb-true}
use Rattle.std.specs.FinMap as finmap
use Rattle.cedar_ids.specs.UidOf.{uid_order}
use Rattle.cedar_entity.specs.View.{EntityView}
use Rattle.cedar_entities.proofs.entities.Entities.is_empty.Goals as goal

pub returns : goal.returns
returns g c = (
  λ e. finmap.empty_of_len c.args.self.now.entities (sym c.len.ensures.value ∙ eqb-true c.len.result 0 e),
  λ h. eq-eqb c.len.result 0 (c.len.ensures.value ∙ ap finmap.len h ∙ finmap.len-empty uid_order EntityView),
)
