use Rattle.std.proofs.Common.{◌∙◌, sym}
use Rattle.cedar_entity_maps.specs.laws.AnyOf.{one_left_out, not_absent}
use Rattle.cedar_entities.proofs.lists.absent_uids.Goals as goal

-- A uid of the map is omitted.
pub loop-shared-preserved-then-contains_key : goal.loop-shared-preserved-then-contains_key
loop-shared-preserved-then-contains_key g c =
    c.loop-shared.invariant ∙ one_left_out _ c.loop-shared.yielded c.in-Some.shared
    (not_absent c.args.entities.now c.in-Some.shared (sym c.contains_key.ensures ∙ c.if-contains_key.true))
