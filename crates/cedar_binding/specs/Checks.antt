-- The results of checking bindings.
use Rattle.std.specs.Prelude.{◌≡◌, List, Some, Result, Ok, Err}
use Rattle.cedar_ids.specs.UidOf.{uid_parts}
use Rattle.cedar_terms.specs.declared.slot.SlotId.{SlotId}
use Rattle.cedar_binding.specs.Bindings.{EnvParts, BindsExactly, FitsSlots, wrong_action, unbound, extra}
use Rattle.cedar_binding.specs.declared.err.LinkingError.{LinkingError}
use Rattle.cedar_binding.specs.declared.err.LinkingError.TheVariants as errors

-- Whether an error is right for these slots and bindings. `ArityError` requires that the ids differ, and contains
-- exactly the two lists. `NotAnAction` requires that the ids fit, and contains the wrong uid. `Memory` implies nothing,
-- and the other errors are impossible.
abbrev pub IsUnfit : LinkingError → List SlotId → EnvParts → Type 0
IsUnfit (errors.ArityError u x) slots e =
    (BindsExactly slots e → ⊥) × (u.items ≡ unbound slots e) × (x.items ≡ extra slots e)
IsUnfit (errors.NotAnAction u) slots e = BindsExactly slots e × (wrong_action e ≡ Some (uid_parts u))
IsUnfit (errors.NoSuchTemplate i) slots e = ⊥
IsUnfit (errors.PolicyIdConflict i) slots e = ⊥
IsUnfit errors.Memory slots e = Unit {0}

-- Whether a result is right: `Ok` if the bindings fit the slots, else a right error. Even `Memory` is possible only if
-- they do not fit.
abbrev pub Binds : {A : Type 0} → Result A LinkingError → List SlotId → EnvParts → Type 0
Binds (Ok a) slots e = FitsSlots slots e
Binds (Err r) slots e = IsUnfit r slots e × (FitsSlots slots e → ⊥)
