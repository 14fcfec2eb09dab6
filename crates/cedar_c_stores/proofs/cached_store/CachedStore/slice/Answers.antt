use Rattle.std.proofs.Common.{subst, sym}
use Rattle.cedar_entity_maps.specs.Plain.{IsPlainStore}
use Rattle.cedar_slice.specs.Slices.{IsPlainSlice}
use Rattle.cedar_c_stores.proofs.cached_store.CachedStore.slice.Goals as goal

pub of-requires : goal.of-requires
of-requires g c = λ h.
    let p = c.self.invariant.0 h in let s = c.in-Ok.ensures.plain p.0 p.1 in (s.input_store, s.is_plain)

pub returns-in-Ok-clause-plain : goal.returns-in-Ok-clause-plain
returns-in-Ok-clause-plain g c W p =
    subst (IsPlainSlice W c.args.uids.now) (sym c.of.ensures)
    (c.in-Ok.ensures.plain W (subst (IsPlainStore W) (sym c.self.view_is) p))
