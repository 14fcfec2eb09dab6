use Rattle.std.proofs.Common.{ap, sym, ◌∙◌}
use Rattle.cedar_entity.specs.Fields.{field_at}
use Rattle.cedar_entity.specs.View.{EntityView}
use Rattle.cedar_entity.proofs.FieldLists.{field_at-entries}
use Rattle.cedar_entity.proofs.entity.Entity.get_tag.Goals as goal

pub returns : goal.returns
returns c = c.get.ensures.value ∙ sym (field_at-entries c.args.key.now c.self.inside.tags.entries)
    ∙ ap (λ (e : EntityView). field_at c.args.key.now e.tags) c.self.view_is
