use Rattle.std.proofs.Common.{ap, sym, ◌∙◌}
use Rattle.std.proofs.lemmas.Bool.{false≢true}
use Rattle.cedar_entity_maps.specs.Plain.{StoreView}
use Rattle.cedar_entities.proofs.Alike.{same_flag}
use Rattle.cedar_entities.proofs.UidsAlike.{to_same, same_back, same_forth}
use Rattle.cedar_entities.proofs.entities.Entities.has_same_uids.Goals as goal

pub returns-then-not-have_keys_of : goal.returns-then-not-have_keys_of
returns-then-not-have_keys_of g c = (
  λ e. absurd (false≢true e),
  λ k. sym c.if-not-have_keys_of.true ∙ c.have_keys_of.ensures.1
      (same_back c.self.inside.entities c.other.inside.entities c.args.self.now c.args.other.now
      (ap (λ (s : StoreView). s.entities) c.self.view_is) (ap (λ (s : StoreView). s.entities) c.other.view_is) k),
)

pub returns : goal.returns
returns g c = (
  λ e. to_same c.self.inside.entities c.other.inside.entities c.args.self.now c.args.other.now
      (ap (λ (s : StoreView). s.entities) c.self.view_is) (ap (λ (s : StoreView). s.entities) c.other.view_is)
      (sym (ap (λ (s : StoreView). s.partial) c.self.view_is)
      ∙ sym (same_flag c.other.inside.partial c.self.inside.partial c.if-other-self.false)
      ∙ ap (λ (s : StoreView). s.partial) c.other.view_is)
      (c.have_keys_of.ensures.0 c.if-not-have_keys_of.false) (c.have_keys_of-2.ensures.0 e),
  λ k. c.have_keys_of-2.ensures.1
      (same_forth c.self.inside.entities c.other.inside.entities c.args.self.now c.args.other.now
      (ap (λ (s : StoreView). s.entities) c.self.view_is) (ap (λ (s : StoreView). s.entities) c.other.view_is) k),
)
