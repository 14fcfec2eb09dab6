use Rattle.std.proofs.Common.{ap, sym, ◌∙◌}
use Rattle.cedar_ids.specs.laws.UidOfLaws.{same_uid_decides}
use Rattle.cedar_entity.specs.View.{EntityView}
use Rattle.cedar_entity.proofs.entity.Entity.deep_eq.Goals as goal

pub returns-clause-equal : goal.returns-clause-equal
returns-clause-equal c = (
  λ t. record {
    uid = sym (ap (λ (e : EntityView). e.uid) c.self.view_is)
        ∙ (same_uid_decides c.self.inside.uid c.other.inside.uid).0 (sym c.eq-same.ensures ∙ c.if-not-same.false)
        ∙ ap (λ (e : EntityView). e.uid) c.other.view_is;
    attrs = sym (ap (λ (e : EntityView). e.attrs) c.self.view_is) ∙ c.same_fields.ensures.0 c.if-not-same_fields.false
        ∙ ap (λ (e : EntityView). e.attrs) c.other.view_is;
    tags = sym (ap (λ (e : EntityView). e.tags) c.self.view_is) ∙ c.same_fields-2.ensures.0 c.if-not-same_fields-2.false
        ∙ ap (λ (e : EntityView). e.tags) c.other.view_is;
    ancestors = c.has_same_ancestors.ensures.0 t;
  },
  λ d. c.has_same_ancestors.ensures.1 d.ancestors,
)
