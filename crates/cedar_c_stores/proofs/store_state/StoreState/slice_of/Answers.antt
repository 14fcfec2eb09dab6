use Rattle.std.proofs.Common.{subst, sym}
use Rattle.cedar_c_stores.specs.Stores.{IsSlice}
use Rattle.cedar_c_stores.proofs.store_state.StoreState.slice_of.Goals as goal

pub returns-in-Ok : goal.returns-in-Ok
returns-in-Ok g c = (
  subst (IsSlice c.args.uids.items c.args.self.now.store) (sym c.cached.ensures.store)
      (subst (λ l. IsSlice l c.args.self.now.store c.in-Ok.store) c.deref.ensures.value
      (record { entities = c.in-Ok.ensures.entities; plain = c.in-Ok.ensures.plain })),
  (c.cached.ensures.answer, c.cached.ensures.refusal, c.cached.ensures.nodes, c.cached.ensures.numbers),
)
