use Rattle.std.proofs.Common.{map}
use Rattle.cedar_entities.specs.Calls.{apply_calls}
use Rattle.cedar_entity_maps.specs.InputStore.{empty_input}
use Rattle.cedar_replay.specs.CallsOf.{call_of}
use Rattle.cedar_examples.proofs.stores.was_member.Goals as goal

pub returns-clause-ok : goal.returns-clause-ok
returns-clause-ok c = c.is_below.ensures (apply_calls empty_input (map call_of c.args.log.items)) c.in_ok-store.ensures.ok
