use Rattle.std.proofs.Common.{◌∙◌, subst, sym}
use Rattle.std.proofs.lemmas.Bool.{false_from_ne_true, false≢true}
use Rattle.std.specs.Option.{IfSome}
use Rattle.cedar_entity.specs.View.{has_ancestor}
use Rattle.cedar_entity_maps.specs.laws.AnyOf.{any_member}
use Rattle.cedar_entity_maps.specs.laws.EntityMap.{entity_at}
use Rattle.cedar_entity_maps.specs.laws.Merging.{IsRowOf}
use Rattle.cedar_entity_maps.proofs.merging.row_apart.Goals as goal

pub returns : goal.returns
returns g c = record {
  row_of = subst (λ o. IfSome o (IsRowOf (entity_at c.args.entities.now) c.args.entity.now)) c.in-Some.is c.in_ok-row.ensures;
  outside = λ b h. false_from_ne_true _ (λ m. false≢true
      (sym c.if-has_any.false ∙ c.has_any.ensures
      ∙ any_member (has_ancestor c.args.entity.now) c.args.affected.now b m h));
  apart = sym c.contains_shared.ensures ∙ c.if-contains_shared.false;
}
