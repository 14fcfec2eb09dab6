use Rattle.std.proofs.Common.{subst, sym}
use Rattle.cedar_entity_maps.specs.Plain.{IsPlainStore}
use Rattle.cedar_c_stores.proofs.cached_store.CachedStore.store_copy.Goals as goal

pub of-requires : goal.of-requires
of-requires g c = λ h.
    let p = c.self.invariant.0 h in (p.0, subst (IsPlainStore p.0) (sym c.in_ok-entities.ensures.cases) p.1)
