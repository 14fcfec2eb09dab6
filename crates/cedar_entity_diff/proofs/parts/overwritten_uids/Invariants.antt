use Rattle.std.proofs.Common.{◌≡◌, take}
use Rattle.cedar_entity_maps.specs.Edits.{uids_of}
use Rattle.cedar_entity_maps.specs.Plain.{entities_in}
use Rattle.cedar_entity_diff.proofs.parts.overwritten_uids.Given as goal

abbrev pub invariant-loop-entity : goal.invariant-loop-entity
invariant-loop-entity l = l.uids.items ≡ uids_of (entities_in (take l.entity-index l.list))
