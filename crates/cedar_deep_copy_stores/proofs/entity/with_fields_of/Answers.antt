use Rattle.std.proofs.Common.{◌∙◌}
use Rattle.cedar_entity.specs.Fields.{fields_of}
use Rattle.cedar_deep_copy_stores.proofs.SameFields.{made_same}
use Rattle.cedar_deep_copy_stores.proofs.entity.with_fields_of.Goals as goal

pub returns-clause-attrs : goal.returns-clause-attrs
returns-clause-attrs c =
    made_same c.in_ok-made.made.attrs c.args.entity.now.attrs (fields_of c.in_ok-attrs.attrs.items)
    c.attrs.ensures.ascending (c.in_ok-attrs.ensures ∙ c.attrs.ensures.pairs) c.in_ok-made.ensures.attrs

pub returns-clause-tags : goal.returns-clause-tags
returns-clause-tags c =
    made_same c.in_ok-made.made.tags c.args.entity.now.tags (fields_of c.in_ok-tags.tags.items)
    c.tags.ensures.ascending (c.in_ok-tags.ensures ∙ c.tags.ensures.pairs) c.in_ok-made.ensures.tags
