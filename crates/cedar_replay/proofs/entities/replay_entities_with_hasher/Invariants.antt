use Rattle.std.specs.Prelude.{◌≡◌, ◌++◌, length, map}
use Rattle.std.specs.Vec.Iter.{into_iter_items}
use Rattle.cedar_entity_maps.specs.Plain.{IsPlainStore}
use Rattle.cedar_entity_maps.specs.InputStore.{empty_input}
use Rattle.cedar_entities.specs.Calls.{apply_calls, AllPass}
use Rattle.cedar_replay.specs.CallsOf.{call_of}
use Rattle.cedar_replay.proofs.entities.replay_entities_with_hasher.Given as goal

abbrev pub invariant-loop-call : goal.invariant-loop-call
invariant-loop-call g l = record {
  plain : IsPlainStore (apply_calls empty_input (map call_of l.yielded)) l.store;
  passed : AllPass empty_input (map call_of l.yielded);
  count : length l.yielded ≡ l.done;
  place : l.fn.calls.items ≡ l.yielded ++ into_iter_items l.call-iterator;
}
