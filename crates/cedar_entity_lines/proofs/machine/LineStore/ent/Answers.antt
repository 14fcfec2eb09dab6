use Rattle.std.proofs.Common.{[], ◌∷◌, ap, refl, sym, subst, ◌∙◌}
use Rattle.cedar_entity_maps.specs.Plain.{entities_in}
use Rattle.cedar_entity_lines.specs.Holding.{StoreAndWaiting, Holds}
use Rattle.cedar_entity_lines.proofs.Steps.{ent_takes}
use Rattle.cedar_entity_lines.proofs.machine.LineStore.ent.Goals as goal
use Rattle.std.proofs.lemmas.List.{map-append}

pub returns : goal.returns
returns g c s h ascii out =
    let old : StoreAndWaiting = record {
      waiting = entities_in c.self.inside.waiting.items;
      store = c.self.inside.store;
    } in
    let made = c.in_ok-entity.ensures c.args.parents.items c.in_ok-parents.ensures in
    ent_takes old _ s c.args.uid c.args.parents.items c.in_ok-entity.entity.value out
    (subst (λ m. Holds m s) (sym c.self.view_is) h)
    (ap entities_in c.in_ok-push.ensures.items
    ∙ map-append (λ r. r.value) c.self.inside.waiting.items (c.in_ok-entity.entity ∷ [])) refl
    made.0 made.1 ascii
