use Rattle.std.proofs.Common.{◌≡◌, true, is_some}
use Rattle.std.specs.HashMap.{get}
use Rattle.std.specs.List.{All}
use Rattle.cedar_ids.specs.UidOf.{same_uid}
use Rattle.cedar_entities.proofs.store_same.have_keys_of.Given as goal

abbrev pub invariant-loop-uid : goal.invariant-loop-uid
invariant-loop-uid g l = All (λ p. is_some (get same_uid l.one p.0.now) ≡ true) l.yielded
