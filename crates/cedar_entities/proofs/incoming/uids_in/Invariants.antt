use Rattle.std.proofs.Common.{◌≡◌, take}
use Rattle.cedar_entity_maps.specs.Edits.{uids_of}
use Rattle.cedar_entities.proofs.incoming.uids_in.Given as goal

abbrev pub invariant-loop-entity : goal.invariant-loop-entity
invariant-loop-entity l = l.uids.items ≡ uids_of (take l.entity-index l.list)
