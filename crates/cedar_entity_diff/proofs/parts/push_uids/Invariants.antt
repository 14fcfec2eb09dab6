use Rattle.std.proofs.Common.{◌≡◌, ◌++◌, take}
use Rattle.cedar_entity_diff.proofs.parts.push_uids.Given as goal

abbrev pub invariant-loop-uid : goal.invariant-loop-uid
invariant-loop-uid l = l.list.items ≡ l.initial.list.items ++ take l.uid-index l.uids
