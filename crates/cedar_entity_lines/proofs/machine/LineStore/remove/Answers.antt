use Rattle.std.proofs.Common.{sym, subst}
use Rattle.std.proofs.lemmas.Result.{on_ok_weaker}
use Rattle.cedar_entity_maps.specs.Plain.{entities_in}
use Rattle.cedar_entity_lines.specs.Holding.{StoreAndWaiting, Holds}
use Rattle.cedar_entity_lines.proofs.Steps.{remove_takes}
use Rattle.cedar_entity_lines.proofs.machine.LineStore.remove.Goals as goal

pub returns : goal.returns
returns g c =
    let old : StoreAndWaiting = record {
      waiting = entities_in c.self.inside.waiting.items;
      store = c.self.inside.store;
    } in
    on_ok_weaker c.store_and_report.result
    (λ k s h. remove_takes old c.store_and_report.new.self s c.args.uids.items c.replace-store.result
    c.remove_entities-given.result c.args.out.now.items c.store_and_report.new.out.items
    (subst (λ m. Holds m s) (sym c.self.view_is) h)
    c.replace-store.ensures.value
    c.store_and_report.ensures.waiting
    c.remove_entities-given.ensures.plain k)
    c.store_and_report.ensures.tells
