use Rattle.std.proofs.Common.{subst, sym, true}
use Rattle.cedar_entity_maps.specs.Plain.{IsPlainStore, StoreView}
use Rattle.cedar_c_stores.specs.QueryCaches.{AreCached}
use Rattle.cedar_c_stores.proofs.cached_store.CachedStore.partial.Goals as goal

pub invariant_of-result : goal.invariant_of-result
invariant_of-result g c =
    let noted = c.self.invariant.1 in (
      λ h. let p = c.self.invariant.0 h in (record p.0 { partial = true }, c.partial.ensures.plain p.0 p.1),
      subst (λ (S : StoreView). AreCached S c.self.inside.noted) (sym c.partial.ensures.value)
          (record { distinct = noted.distinct; above = noted.above; names = noted.names }),
    )

pub returns-clause-plain : goal.returns-clause-plain
returns-clause-plain g c W p = c.partial.ensures.plain W (subst (IsPlainStore W) (sym c.self.view_is) p)
