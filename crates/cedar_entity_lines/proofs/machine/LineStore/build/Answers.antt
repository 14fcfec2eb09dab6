use Rattle.std.proofs.Common.{refl, sym, subst}
use Rattle.std.proofs.lemmas.Result.{on_ok_weaker}
use Rattle.cedar_entity_maps.specs.Plain.{entities_in}
use Rattle.cedar_entity_lines.specs.Holding.{StoreAndWaiting, Holds}
use Rattle.cedar_entity_lines.proofs.Steps.{build_takes}
use Rattle.cedar_entity_lines.proofs.machine.LineStore.build.Goals as goal

pub returns : goal.returns
returns g c =
    let old : StoreAndWaiting = record {
      waiting = entities_in c.self.inside.waiting.items;
      store = c.self.inside.store;
    } in
    let emptied : StoreAndWaiting = record {
      waiting = entities_in c.self.inside.waiting.items;
      store = c.with_hasher.result;
    } in
    on_ok_weaker c.add.result
    (λ k s h. build_takes old emptied s c.args.out.now.items c.add.new.out.items
    (subst (λ m. Holds m s) (sym c.self.view_is) h) refl c.with_hasher.ensures.plain c.add.new.self k)
    c.add.ensures
