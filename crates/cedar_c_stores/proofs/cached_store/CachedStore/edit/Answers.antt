use Rattle.cedar_c_stores.proofs.Editing.{plain_refused}
use Rattle.cedar_c_stores.proofs.cached_store.CachedStore.edit.Goals as goal

pub edit_store-requires-clause-plain : goal.edit_store-requires-clause-plain
edit_store-requires-clause-plain g c = λ h. c.self.invariant.0 (c.stays_plain-plain.ensures.plain h)

pub invariant_of-self : goal.invariant_of-self
invariant_of-self g c = (c.in-Ok.ensures.stays, c.new.ensures c.edit_store.new.store)

pub invariant_of-self-in-Err : goal.invariant_of-self-in-Err
invariant_of-self-in-Err g c = (
  plain_refused c.args.mode c.args.edit c.self.inside.entities c.edit_store.new.store c.in-Err.error c.self.inside.plain
      c.in-Err.ensures.edits c.self.invariant.0,
  c.new.ensures c.edit_store.new.store,
)
