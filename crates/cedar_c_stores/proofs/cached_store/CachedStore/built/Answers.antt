use Rattle.cedar_entity_maps.specs.InputStore.{empty_input}
use Rattle.cedar_c_stores.specs.declared.edits.Edit.TheVariants.{Add}
use Rattle.cedar_c_stores.proofs.Editing.{plain_given}
use Rattle.cedar_c_stores.proofs.cached_store.CachedStore.built.Goals as goal

pub of-requires : goal.of-requires
of-requires g c = λ h.
    plain_given c.args.mode (Add c.args.list) c.with_hasher.result c.in-Ok.entities (c.stays_plain-plain.ensures.keeps h)
    c.in-Ok.ensures (empty_input, c.with_hasher.ensures.plain)
