use Rattle.std.proofs.Common.{ap, ◌∙◌, ◌++◌}
use Rattle.cedar_entity_diff.proofs.PartsOfStores.{part_of_slice}
use Rattle.cedar_entity_diff.proofs.parts.part_at.Goals as goal

pub returns-clause-ok : goal.returns-clause-ok
returns-clause-ok g c =
    part_of_slice c.args.store.now c.args.uids.items c.args.edited.items c.in_ok-affected.affected.items
    c.deref-2.result.now
    (c.deref-2.ensures.value ∙ c.in_ok-push_uids.ensures ∙ ap (λ l. c.args.uids.items ++ l) c.deref.ensures.value)
    c.in_ok-affected.ensures.ok c.slice.result c.slice.ensures.entities c.slice.ensures.plain
