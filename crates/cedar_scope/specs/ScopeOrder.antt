-- The order, equality and hash of references and constraints.
use Rattle.std.specs.Prelude.{ℕ, List, [], ◌++◌, Bool, Option, Some, None}
use Rattle.std.specs.declared.cmp.Ordering.{Ordering}
use Rattle.std.specs.declared.cmp.Ordering.TheVariants.{Less, Equal, Greater}
use Rattle.std.specs.Ordering.{nat_cmp, on, then_cmp, eq_by_cmp}
use Rattle.std.specs.Option.{option_cmp}
use Rattle.std.specs.Hash as fed
use Rattle.cedar_ids.specs.Name.{NameParts, name_cmp, name_hash_input}
use Rattle.cedar_ids.specs.Uid.{uid_cmp, uid_hash_input}
use Rattle.cedar_scope.specs.Scope.{Reference, to_uid, to_slot, Constraint}
use Rattle.cedar_scope.specs.ScopeReads.{constraint_kind, stated_type, reference_in}

-- The order of references: uids by their order, each of them before the slot.
abbrev pub reference_cmp : Reference → Reference → Ordering
reference_cmp (to_uid u) (to_uid v) = uid_cmp u v
reference_cmp (to_uid u) to_slot = Less
reference_cmp to_slot (to_uid v) = Greater
reference_cmp to_slot to_slot = Equal

-- The order of constraints: by kind, then by the stated type, then by the reference.
abbrev pub constraint_cmp : Constraint → Constraint → Ordering
constraint_cmp =
    then_cmp (on constraint_kind nat_cmp)
    (then_cmp (on stated_type (option_cmp name_cmp)) (on reference_in (option_cmp reference_cmp)))

-- The result of `==` on two references: whether `reference_cmp` reports `Equal`.
abbrev pub same_reference : Reference → Reference → Bool
same_reference = eq_by_cmp reference_cmp

-- The result of `==` on two constraints: whether `constraint_cmp` reports `Equal`.
abbrev pub same_constraint : Constraint → Constraint → Bool
same_constraint = eq_by_cmp constraint_cmp

-- The input that a reference feeds to a hasher: the index of its kind, then the uid, if there is one.
abbrev pub reference_hash : Reference → List (List ℕ)
reference_hash (to_uid u) = fed.u8 0 ++ uid_hash_input u
reference_hash to_slot = fed.u8 1

-- The input that an optional type feeds to a hasher: its name, or nothing for `None`.
abbrev pub type_hash : Option NameParts → List (List ℕ)
type_hash None = []
type_hash (Some t) = name_hash_input t

-- The input that an optional reference feeds to a hasher: that of the reference, or nothing for `None`.
abbrev pub part_hash : Option Reference → List (List ℕ)
part_hash None = []
part_hash (Some r) = reference_hash r

-- The input that a constraint feeds to a hasher: the index of its kind, then the stated type, then the reference.
abbrev pub constraint_hash : Constraint → List (List ℕ)
constraint_hash c = fed.u8 (constraint_kind c) ++ (type_hash (stated_type c) ++ part_hash (reference_in c))
