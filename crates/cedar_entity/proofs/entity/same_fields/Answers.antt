use Rattle.std.proofs.Common.{sym, ◌∙◌}
use Rattle.cedar_entity.proofs.FieldLists.{same_fields_decides}
use Rattle.cedar_entity.proofs.entity.same_fields.Goals as goal

pub returns : goal.returns
returns c =
    let d = same_fields_decides c.args.one.now.entries c.args.other.now.entries in
    (λ t. d.0 (sym c.eq.ensures ∙ t), λ e. c.eq.ensures ∙ d.1 e)
