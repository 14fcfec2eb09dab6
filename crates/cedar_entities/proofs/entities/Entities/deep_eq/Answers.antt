use Rattle.std.proofs.Common.{ap, sym, ◌∙◌}
use Rattle.std.proofs.lemmas.Bool.{false≢true}
use Rattle.cedar_entity_maps.specs.Plain.{StoreView}
use Rattle.cedar_entities.proofs.Alike.{same_flag, to_deep, deep_alike, deep_keys}
use Rattle.cedar_entities.proofs.entities.Entities.deep_eq.Goals as goal

pub returns-then-not-have_deep_equals-clause-equal : goal.returns-then-not-have_deep_equals-clause-equal
returns-then-not-have_deep_equals-clause-equal g c = (
  λ e. absurd (false≢true e),
  λ d. sym c.if-not-have_deep_equals.true
      ∙ c.have_deep_equals.ensures.1
      (deep_alike c.self.inside.entities c.other.inside.entities c.args.self.now c.args.other.now
      (ap (λ (s : StoreView). s.entities) c.self.view_is) (ap (λ (s : StoreView). s.entities) c.other.view_is) d),
)

pub returns-clause-equal : goal.returns-clause-equal
returns-clause-equal g c = (
  λ e. to_deep c.self.inside.entities c.other.inside.entities c.args.self.now c.args.other.now
      (ap (λ (s : StoreView). s.entities) c.self.view_is) (ap (λ (s : StoreView). s.entities) c.other.view_is)
      (sym (ap (λ (s : StoreView). s.partial) c.self.view_is)
      ∙ same_flag c.self.inside.partial c.other.inside.partial c.if-self-other.false
      ∙ ap (λ (s : StoreView). s.partial) c.other.view_is)
      (c.have_deep_equals.ensures.0 c.if-not-have_deep_equals.false) (c.have_keys_of.ensures.0 e),
  λ d. c.have_keys_of.ensures.1
      (deep_keys c.self.inside.entities c.other.inside.entities c.args.self.now c.args.other.now
      (ap (λ (s : StoreView). s.entities) c.self.view_is) (ap (λ (s : StoreView). s.entities) c.other.view_is) d),
)
