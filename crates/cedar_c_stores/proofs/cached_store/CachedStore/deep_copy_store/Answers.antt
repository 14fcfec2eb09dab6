use Rattle.cedar_c_stores.proofs.cached_store.CachedStore.deep_copy_store.Goals as goal

pub of-requires : goal.of-requires
of-requires g c = λ h.
    let p = c.self.invariant.0 h in (p.0, c.in_ok-entities.ensures.plain p.0 p.1)
