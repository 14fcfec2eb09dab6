use Rattle.std.proofs.Common.{ap, sym, subst, ◌∙◌, Vec, Global}
use Rattle.std.specs.declared.rc.Rc.{Rc}
use Rattle.std.proofs.lemmas.Result.{on_ok_weaker}
use Rattle.cedar_entity.specs.View.{EntityView}
use Rattle.cedar_entity_maps.specs.Plain.{entities_in}
use Rattle.cedar_entity_lines.specs.Holding.{StoreAndWaiting, Holds}
use Rattle.cedar_entity_lines.proofs.Steps.{add_takes}
use Rattle.cedar_entity_lines.proofs.machine.LineStore.add.Goals as goal

pub returns : goal.returns
returns g c =
    let old : StoreAndWaiting = record {
      waiting = entities_in c.self.inside.waiting.items;
      store = c.self.inside.store;
    } in
    on_ok_weaker c.store_and_report.result
    (λ k s h. add_takes old c.store_and_report.new.self s (entities_in c.replace-list.result.items) c.replace-store.result
    c.add_entities-given.result c.args.out.now.items c.store_and_report.new.out.items
    (subst (λ m. Holds m s) (sym c.self.view_is) h)
    (ap (λ (v : Vec (Rc EntityView Global) Global). entities_in v.items) c.replace-list.ensures.value)
    c.replace-store.ensures.value
    (c.store_and_report.ensures.waiting
    ∙ ap (λ (v : Vec (Rc EntityView Global) Global). entities_in v.items) c.replace-list.ensures.after
    ∙ ap entities_in c.new.ensures.items)
    c.add_entities-given.ensures.plain k)
    c.store_and_report.ensures.tells
