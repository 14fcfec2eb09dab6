use Rattle.std.proofs.Common.{◌≡◌, ◌++◌, List, ℕ}
use Rattle.cedar_policy_maps.specs.Maps.{lists_of}
use Rattle.cedar_policy_maps.specs.laws.BulkInsertSteps.{HaveRoom}
use Rattle.cedar_policy_maps.proofs.bulk_insert.room_in_lists.Given as goal

abbrev pub invariant-loop-body : goal.invariant-loop-body
invariant-loop-body g l = record {
  lists : lists_of l.map.entries ≡ lists_of l.initial.map.entries;
  done : List (List ℕ × List (List ℕ));
  is_part : done ++ lists_of l.body-iterator ≡ lists_of l.grown.entries;
  room : HaveRoom l.map.entries done;
}
