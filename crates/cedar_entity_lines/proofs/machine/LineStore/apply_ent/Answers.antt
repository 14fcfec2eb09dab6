use Rattle.std.proofs.Common.{◌≡◌, [], ◌∷◌, ap, refl, subst, sym, map, codes, ◌∙◌}
use Rattle.std.specs.Cmp.Lexicographic.{bytes_decides}
use Rattle.std.proofs.lemmas.List.{map-append}
use Rattle.cedar_entity_maps.specs.Plain.{entities_in}
use Rattle.cedar_entity_lines.specs.EntityCommand.{EntityCommand, Ent, IsEntityCommand}
use Rattle.cedar_entity_lines.specs.Holding.{StoreAndWaiting, Holds}
use Rattle.cedar_entity_lines.specs.laws.ReadCommands.{command_ascii}
use Rattle.cedar_entity_lines.proofs.Steps.{ent_takes}
use Rattle.cedar_entity_lines.proofs.machine.LineStore.apply_ent.Goals as goal

pub returns-then-eq : goal.returns-then-eq
returns-then-eq g c =
    let word : c.in-Some.word.now.now ≡ codes "ent" = (bytes_decides _ _).0 (sym c.eq.ensures ∙ c.if-eq.true) in
    let read = rw c.in-Some-2.is at c.in_ok-entity.ensures in
    let e : EntityCommand = Ent read.0 read.1 in
    let is : IsEntityCommand e (map (λ f. f.now) c.args.fields.now) = rw c.in-Some.ensures.cases.0 (word, read.2) in
    let old : StoreAndWaiting = record {
      waiting = entities_in c.self.inside.waiting.items;
      store = c.self.inside.store;
    } in (
      read.0,
      read.1,
      is,
      λ s h out. ent_takes old _ s read.0 read.1 c.in-Some-2.entity.value out
          (subst (λ m. Holds m s) (sym c.self.view_is) h)
          (ap entities_in c.in_ok-push.ensures.items
          ∙ map-append (λ r. r.value) c.self.inside.waiting.items (c.in-Some-2.entity ∷ [])) refl
          read.3.0 read.3.1 (command_ascii e _ is),
    )

pub returns-in_default-2 : goal.returns-in_default-2
returns-in_default-2 g c =
    let none = rw c.in_default-2.is at c.in_ok-entity.ensures in
    ((λ u ps h. none u ps (rw c.in-Some.ensures.cases.0 at h).1), refl)
