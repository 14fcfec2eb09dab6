use Rattle.std.proofs.Common.{sym, subst, OnOk}
use Rattle.std.proofs.lemmas.Result.{on_ok_weaker}
use Rattle.cedar_entity_maps.specs.Plain.{entities_in}
use Rattle.cedar_entity_lines.specs.Holding.{StoreAndWaiting}
use Rattle.cedar_entity_lines.specs.laws.Machines.{KeepsAndTells}
use Rattle.cedar_entity_lines.proofs.machine.LineStore.store_and_report.Goals as goal

pub returns-in-Err-clause-tells : goal.returns-in-Err-clause-tells
returns-in-Err-clause-tells g c =
    let out = c.push_refusal-told.new.out.items in
    let waiting = entities_in c.self.inside.waiting.items in
    let new : StoreAndWaiting = record { waiting = waiting; store = c.with_hasher.result } in
    subst (λ given. OnOk c.push_refusal-told.result (KeepsAndTells given new c.args.out.now.items out))
    (sym c.in-Err.is)
    (on_ok_weaker c.push_refusal-told.result (λ told. (c.with_hasher.ensures.plain, told)) c.push_refusal-told.ensures)
