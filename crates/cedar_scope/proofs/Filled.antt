-- Filling a slot, for the functions that fill it.
use Rattle.std.proofs.Common.{◌≡◌, false}
use Rattle.cedar_ids.specs.Uid.{UidParts}
use Rattle.cedar_scope.specs.Scope.{Constraint}
use Rattle.cedar_scope.specs.ScopeReads.{has_slot, filled}
use Rattle.cedar_scope.specs.laws.Filling.{has_slot-filled, filled-filled}

pub holds_no_slot : (u : UidParts) (c : Constraint) → has_slot (filled u c) ≡ false
holds_no_slot u c = has_slot-filled u c

pub stays_filled : (u v : UidParts) (c : Constraint) → filled v (filled u c) ≡ filled u c
stays_filled u v c = filled-filled u v c
