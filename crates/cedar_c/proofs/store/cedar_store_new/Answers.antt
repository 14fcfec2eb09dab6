use Rattle.cedar_entity_maps.specs.Plain.{IsPlainStore}
use Rattle.cedar_entity_maps.specs.InputStore.{empty_input}
use Rattle.cedar_c_stores.specs.Stores.{IsUntold}
use Rattle.cedar_c.specs.StoreCalls.{HandleState}
use Rattle.cedar_c.proofs.StoreChanges.{holds}
use Rattle.cedar_c.proofs.store.cedar_store_new.Goals as goal

pub returns-clause-new : goal.returns-clause-new
returns-clause-new c zero =
    holds (λ (k : HandleState). IsPlainStore empty_input k.store) c.new.result c.args.handle.now.held.value
    c.fill.new.handle.held.value c.fill.result c.new.ensures.plain c.fill.ensures zero

pub returns-clause-untold : goal.returns-clause-untold
returns-clause-untold c zero =
    holds (λ (k : HandleState). IsUntold k) c.new.result c.args.handle.now.held.value c.fill.new.handle.held.value
    c.fill.result (c.new.ensures.answer, c.new.ensures.refusal, c.new.ensures.nodes, c.new.ensures.numbers) c.fill.ensures zero
