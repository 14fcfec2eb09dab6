use Rattle.std.proofs.Common.{◌≡◌, filter_map, take}
use Rattle.std.specs.FinMap as finmap
use Rattle.cedar_entity_diff.specs.Diffs.{ancestry_from}
use Rattle.cedar_entity_diff.proofs.store_diff.ancestry_in.Given as goal

abbrev pub invariant-loop-uid : goal.invariant-loop-uid
invariant-loop-uid g l = l.list.items ≡ filter_map
    (λ q. ancestry_from (finmap.get l.store.entities q) (finmap.get l.other.entities q)) (take l.uid-index l.uids)
