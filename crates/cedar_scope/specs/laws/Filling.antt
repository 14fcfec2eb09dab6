-- Laws of filling the slot of a constraint.
use Rattle.std.specs.Prelude.{◌≡◌, false, refl}
use Rattle.std.proofs.Common.{ap}
use Rattle.cedar_ids.specs.Uid.{UidParts}
use Rattle.cedar_scope.specs.Scope.{Reference, to_uid, to_slot, Constraint, any, within, equals, of_type}
use Rattle.cedar_scope.specs.Scope.{of_type_within}
use Rattle.cedar_scope.specs.ScopeReads.{is_slot, has_slot, filled_reference, filled}

is_slot-filled : (u : UidParts) (r : Reference) → is_slot (filled_reference u r) ≡ false
is_slot-filled u (to_uid v) = refl
is_slot-filled u to_slot = refl

filled_reference-no_slot : (u : UidParts) (r : Reference) → is_slot r ≡ false → filled_reference u r ≡ r
filled_reference-no_slot u (to_uid v) e = refl
filled_reference-no_slot u to_slot e = absurd (cc)

-- A filled constraint has no slot.
pub has_slot-filled : (u : UidParts) (c : Constraint) → has_slot (filled u c) ≡ false
has_slot-filled u any = refl
has_slot-filled u (within r) = is_slot-filled u r
has_slot-filled u (equals r) = is_slot-filled u r
has_slot-filled u (of_type t) = refl
has_slot-filled u (of_type_within t r) = is_slot-filled u r

-- Filling does not change a constraint without a slot.
pub filled-no_slot : (u : UidParts) (c : Constraint) → has_slot c ≡ false → filled u c ≡ c
filled-no_slot u any e = refl
filled-no_slot u (within r) e = ap within (filled_reference-no_slot u r e)
filled-no_slot u (equals r) e = ap equals (filled_reference-no_slot u r e)
filled-no_slot u (of_type t) e = refl
filled-no_slot u (of_type_within t r) e = ap (of_type_within t) (filled_reference-no_slot u r e)

-- Filling a filled constraint again changes nothing.
pub filled-filled : (u v : UidParts) (c : Constraint) → filled v (filled u c) ≡ filled u c
filled-filled u v c = filled-no_slot v (filled u c) (has_slot-filled u c)
