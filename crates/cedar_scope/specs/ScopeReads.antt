-- The contents of references and constraints, and the filling of a slot.
use Rattle.std.specs.Prelude.{ℕ, List, ◌++◌, Bool, true, false, Option, Some, None}
use Rattle.std.specs.Option.{option_map, option_to_list}
use Rattle.cedar_ids.specs.Name.{NameParts}
use Rattle.cedar_ids.specs.Uid.{UidParts, name_part}
use Rattle.cedar_scope.specs.Scope.{Reference, to_uid, to_slot, Constraint, any, within, equals, of_type}
use Rattle.cedar_scope.specs.Scope.{of_type_within}

-- The uid of a reference, if it is a uid.
abbrev pub referred_uid : Reference → Option UidParts
referred_uid (to_uid u) = Some u
referred_uid to_slot = None

-- The index of a constraint's kind.
abbrev pub constraint_kind : Constraint → ℕ
constraint_kind any = 0
constraint_kind (within r) = 1
constraint_kind (equals r) = 2
constraint_kind (of_type t) = 3
constraint_kind (of_type_within t r) = 4

-- The type stated in a constraint, if there is one.
abbrev pub stated_type : Constraint → Option NameParts
stated_type any = None
stated_type (within r) = None
stated_type (equals r) = None
stated_type (of_type t) = Some t
stated_type (of_type_within t r) = Some t

-- The reference in a constraint, if there is one.
abbrev pub reference_in : Constraint → Option Reference
reference_in any = None
reference_in (within r) = Some r
reference_in (equals r) = Some r
reference_in (of_type t) = None
reference_in (of_type_within t r) = Some r

-- The uid referenced in a constraint, if there is one.
abbrev pub constraint_uid : Constraint → Option UidParts
constraint_uid any = None
constraint_uid (within r) = referred_uid r
constraint_uid (equals r) = referred_uid r
constraint_uid (of_type t) = None
constraint_uid (of_type_within t r) = referred_uid r

-- The types in a constraint: the type of the uid, then the stated type, each if there is one.
abbrev pub constraint_types : Constraint → List NameParts
constraint_types c = option_to_list (option_map name_part (constraint_uid c)) ++ option_to_list (stated_type c)

-- Whether a reference is the slot.
abbrev pub is_slot : Reference → Bool
is_slot (to_uid u) = false
is_slot to_slot = true

-- Whether a constraint refers to the slot.
abbrev pub has_slot : Constraint → Bool
has_slot any = false
has_slot (within r) = is_slot r
has_slot (equals r) = is_slot r
has_slot (of_type t) = false
has_slot (of_type_within t r) = is_slot r

-- The reference with the uid in place of the slot.
abbrev pub filled_reference : UidParts → Reference → Reference
filled_reference u (to_uid v) = to_uid v
filled_reference u to_slot = to_uid u

-- The constraint with the uid in place of the slot, and all else unchanged.
abbrev pub filled : UidParts → Constraint → Constraint
filled u any = any
filled u (within r) = within (filled_reference u r)
filled u (equals r) = equals (filled_reference u r)
filled u (of_type t) = of_type t
filled u (of_type_within t r) = of_type_within t (filled_reference u r)
