use Rattle.std.proofs.Common.{ap, sym, subst, ◌∙◌}
use Rattle.std.specs.FinMap as finmap
use Rattle.std.specs.Option.{option_map, option_copied}
use Rattle.std.specs.Prelude.{Some}
use Rattle.cedar_entity_maps.specs.laws.EntityMap.{shared}
use Rattle.cedar_entity_maps.specs.Plain.{StoreView, IsKeyed}
use Rattle.cedar_entities.proofs.StoreMaps.{seen_keyed}
use Rattle.cedar_entity_maps.specs.laws.Seen.{get_seen}
use Rattle.cedar_entities.proofs.entities.Entities.stored.Goals as goal

pub returns-in-Some-clause-value : goal.returns-in-Some-clause-value
returns-in-Some-clause-value g c =
    ap Some c.deref.ensures ∙ ap (option_map shared) (sym (sym c.get.ensures.value ∙ ap option_copied c.in-Some.is))
    ∙ sym (get_seen c.self.inside.entities c.args.uid.now)
    ∙ ap (λ (s : StoreView). finmap.get s.entities c.args.uid.now) c.self.view_is

pub returns-in-None-clause-value : goal.returns-in-None-clause-value
returns-in-None-clause-value g c =
    ap (option_map shared) (sym (sym c.get.ensures.value ∙ ap option_copied c.in-None.is))
    ∙ sym (get_seen c.self.inside.entities c.args.uid.now)
    ∙ ap (λ (s : StoreView). finmap.get s.entities c.args.uid.now) c.self.view_is

pub returns-in-Some-clause-keyed : goal.returns-in-Some-clause-keyed
returns-in-Some-clause-keyed g c =
    subst IsKeyed (ap (λ (s : StoreView). s.entities) c.self.view_is) (seen_keyed c.self.inside.entities c.self.invariant.0)

pub returns-in-None-clause-keyed : goal.returns-in-None-clause-keyed
returns-in-None-clause-keyed g c =
    subst IsKeyed (ap (λ (s : StoreView). s.entities) c.self.view_is) (seen_keyed c.self.inside.entities c.self.invariant.0)
