use Rattle.std.proofs.Common.{subst, sym}
use Rattle.cedar_entity_maps.specs.Plain.{IsPlainStore}
use Rattle.cedar_c_stores.proofs.store_state.StoreState.make_partial.Goals as goal

pub returns-clause-plain : goal.returns-clause-plain
returns-clause-plain g c W plain =
    c.partial.ensures.plain W (subst (IsPlainStore W) (sym c.replace-store.ensures.value) plain)
