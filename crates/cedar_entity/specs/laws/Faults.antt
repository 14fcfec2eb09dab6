-- The result of the checks of an entity.
use Rattle.std.specs.Prelude.{◌≡◌, true, Some, IsTrue}
use Rattle.cedar_entity.specs.Least.{IsLeast}
use Rattle.cedar_entity.specs.Validity.{PassesSelf, PassesDuplicates, PassesActions, IsLeastNonAction, is_in_both}
use Rattle.cedar_entity.specs.Validity.{is_action, reserved_key}
use Rattle.cedar_entity.specs.View.{EntityView, has_ancestor}
use Rattle.cedar_entity.specs.declared.fault.Fault.{Fault}
use Rattle.cedar_entity.specs.declared.fault.Fault.TheVariants as faults

-- Holds if this is a fault of the entity, and the entity passes all checks before that one.
abbrev pub IsFound : EntityView → Fault → Type 0
IsFound e faults.SelfAncestor = has_ancestor e e.uid ≡ true
IsFound e (faults.DuplicateAncestor a) = PassesSelf e × IsLeast (is_in_both e) a.now
IsFound e (faults.ActionParentIsNotAction p) = PassesDuplicates e × IsTrue (is_action e.uid) × IsLeastNonAction e p.now
IsFound e (faults.ReservedKey k) = PassesActions e × (reserved_key e ≡ Some k.now)
