use Rattle.std.proofs.Common.{◌≡◌, ◌∙◌}
use Rattle.cedar_entity.specs.Fields.{fields_of}
use Rattle.cedar_deep_copy_stores.proofs.SameEntity.{listed_as}
use Rattle.cedar_deep_copy_stores.proofs.SameFields.{made_same}
use Rattle.cedar_deep_copy_stores.proofs.unshared.entity_with_copied_sets.Goals as goal

pub returns : goal.returns
returns g c =
    let e = c.args.entity.now in
    let made = c.in_ok-made.ensures in
    let attrs : c.in_ok-made.made.attrs ≡ e.attrs =
    made_same c.in_ok-made.made.attrs e.attrs (fields_of c.in_ok-attrs.attrs.items) c.attrs.ensures.ascending
    (c.in_ok-attrs.ensures ∙ c.attrs.ensures.pairs) made.attrs in
    let tags : c.in_ok-made.made.tags ≡ e.tags =
    made_same c.in_ok-made.made.tags e.tags (fields_of c.in_ok-tags.tags.items) c.tags.ensures.ascending
    (c.in_ok-tags.ensures ∙ c.tags.ensures.pairs) made.tags in
    let parents : c.in_ok-made.made.parents ≡ e.parents =
    made.parents ∙ listed_as e.parents c.parents.result c.in_ok-parents.parents.keys c.parents.ensures.lists
    c.in_ok-parents.ensures in
    let indirect : c.in_ok-made.made.indirect ≡ e.indirect =
    made.indirect ∙ listed_as e.indirect c.indirect_ancestors.result c.in_ok-above.above.keys
    c.indirect_ancestors.ensures.lists c.in_ok-above.ensures in
    λ i. record {
      uid = (made.uid ∙ c.in_ok-uid.ensures ∙ c.in_ok-shared.ensures ∙ c.uid.ensures) i;
      attrs = attrs i;
      tags = tags i;
      parents = parents i;
      indirect = indirect i;
    }
