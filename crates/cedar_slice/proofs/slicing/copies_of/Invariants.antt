use Rattle.std.proofs.Common.{◌≡◌, map, filter_map}
use Rattle.std.specs.FinMap as finmap
use Rattle.cedar_entity_maps.specs.Plain.{StoreView}
use Rattle.cedar_slice.proofs.Copies.{AreKeyed}
use Rattle.cedar_slice.proofs.slicing.copies_of.Given as goal

abbrev pub invariant-loop-uid : goal.invariant-loop-uid
invariant-loop-uid g l = (l.list.items ≡ filter_map (finmap.get l.store.entities) (map (λ x. x.now) l.yielded))
    × AreKeyed l.store.entities (map (λ x. x.now) l.yielded)
