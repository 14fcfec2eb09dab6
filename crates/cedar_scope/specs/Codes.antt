-- Codes by which a proof distinguishes references and constraints.
use Rattle.std.specs.Prelude.{◌≡◌, ℕ, Option, Some, None, refl, if◌then◌else◌, ◌==◌}
use Rattle.std.specs.Coded.{Coded, code_by, coded×, coded_ℕ, coded_option}
use Rattle.cedar_ids.specs.Name.{NameParts}
use Rattle.cedar_ids.specs.Uid.{UidParts}
use Rattle.cedar_ids.specs.Codes.{name_code, uid_parts_code}
use Rattle.cedar_scope.specs.Scope.{Reference, to_uid, to_slot, Constraint, any, within, equals, of_type}
use Rattle.cedar_scope.specs.Scope.{of_type_within}
use Rattle.cedar_scope.specs.ScopeReads.{referred_uid, constraint_kind, stated_type, reference_in}

-- The reference to an optional uid: the slot if there is none.
abbrev pub reference_with : Option UidParts → Reference
reference_with None = to_slot
reference_with (Some u) = to_uid u

-- The reference made from the optional uid of r is r.
pub reference_with-referred_uid : (r : Reference) → reference_with (referred_uid r) ≡ r
reference_with-referred_uid (to_uid u) = refl
reference_with-referred_uid to_slot = refl

-- The code of references.
abbrev pub reference_code : Coded Reference
reference_code =
    code_by (Option UidParts) (coded_option uid_parts_code) referred_uid reference_with reference_with-referred_uid

-- The constraint of a kind, with these parts.
abbrev pub constraint_with : ℕ → Option NameParts → Option Reference → Constraint
constraint_with k None None = any
constraint_with k None (Some r) = if k == 1 then within r else equals r
constraint_with k (Some t) None = of_type t
constraint_with k (Some t) (Some r) = of_type_within t r

-- A constraint is the one with its kind and its parts.
pub constraint_with-parts : (c : Constraint) → constraint_with (constraint_kind c) (stated_type c) (reference_in c) ≡ c
constraint_with-parts any = refl
constraint_with-parts (within r) = refl
constraint_with-parts (equals r) = refl
constraint_with-parts (of_type t) = refl
constraint_with-parts (of_type_within t r) = refl

-- The code of constraints.
abbrev pub constraint_code : Coded Constraint
constraint_code =
    code_by (ℕ × (Option NameParts × Option Reference))
    (coded× coded_ℕ (coded× (coded_option name_code) (coded_option reference_code)))
    (λ c. (constraint_kind c, (stated_type c, reference_in c)))
    (λ p. constraint_with p.0 p.1.0 p.1.1) constraint_with-parts
