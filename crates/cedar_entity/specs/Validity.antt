-- The faults of an entity, in the order in which `validate` checks them.
use Rattle.std.specs.Prelude.{◌≡◌, ◌⊎◌, ℕ, List, [], ◌∷◌, Bool, true, false, not, ◌&&◌, Option, Some, None}
use Rattle.std.specs.Prelude.{if◌then◌else◌, string_bytes, IsTrue}
use Rattle.cedar_entity.specs.declared.err.EntitiesError.{EntitiesError}
use Rattle.cedar_entity.specs.declared.err.EntitiesError.TheVariants as errors
use Rattle.std.specs.Option.{option_or}
use Rattle.std.specs.FinSet as set
use Rattle.cedar_ids.specs.Uid.{is_action_uid}
use Rattle.cedar_ids.specs.UidOf.{uid_parts}
use Rattle.cedar_ids.specs.declared.entity.EntityUID.{EntityUID}
use Rattle.cedar_terms.specs.Reserved.{is_reserved_key}
use Rattle.cedar_terms.specs.ValueTree.{ValueTree, literal_value, set_value, record_value, extension_value, ValueTrees}
use Rattle.cedar_terms.specs.ValueTree.{no_values, value_then, FieldTrees, no_fields, field_then}
use Rattle.cedar_terms.specs.declared.partial_value.PartialValue.{PartialValue}
use Rattle.cedar_terms.specs.declared.partial_value.PartialValue.TheVariants as partials
use Rattle.cedar_entity.specs.Fields.{Fields}
use Rattle.cedar_entity.specs.Least.{IsLeast, NonePasses}
use Rattle.cedar_entity.specs.View.{EntityView, has_ancestor}

-- The first reserved key in a value. In a record, each key is checked before its value is searched. In a set, the
-- elements are searched in order.
abbrev mutual
  pub reserved_in : ValueTree → Option (List ℕ)
  reserved_in (literal_value l) = None
  reserved_in (set_value vs) = reserved_in_all vs
  reserved_in (record_value fs) = reserved_in_record fs
  reserved_in (extension_value f a) = None

  -- The first reserved key in a list of values.
  pub reserved_in_all : ValueTrees → Option (List ℕ)
  reserved_in_all no_values = None
  reserved_in_all (value_then v vs) = option_or (reserved_in v) (reserved_in_all vs)

  -- The first reserved key among the keys of a record and in its values.
  pub reserved_in_record : FieldTrees → Option (List ℕ)
  reserved_in_record no_fields = None
  reserved_in_record (field_then k v fs) = if is_reserved_key k then Some k else option_or (reserved_in v)
      (reserved_in_record fs)

-- The first reserved key in a partial value. A residual is skipped.
abbrev pub reserved_in_partial : PartialValue → Option (List ℕ)
reserved_in_partial (partials.Value v) = reserved_in v
reserved_in_partial (partials.Residual e) = None

-- The first reserved key in the values of attributes or tags, in the order of their keys. The keys of the attributes or
-- tags themselves are not checked.
abbrev pub reserved_in_fields : Fields → Option (List ℕ)
reserved_in_fields [] = None
reserved_in_fields (f ∷ fs) = option_or (reserved_in_partial f.1) (reserved_in_fields fs)

-- The first reserved key of an entity: attributes are searched before tags.
abbrev pub reserved_key : EntityView → Option (List ℕ)
reserved_key e = option_or (reserved_in_fields e.attrs) (reserved_in_fields e.tags)

-- Whether a uid is an action: the last component of the name of its type is `Action`.
abbrev pub is_action : EntityUID → Bool
is_action u = is_action_uid (uid_parts u)

-- Whether q is both a parent and an indirect ancestor.
abbrev pub is_in_both : EntityView → EntityUID → Bool
is_in_both e q = set.contains e.parents q && set.contains e.indirect q

-- Whether q is a parent that is not an action.
abbrev pub is_non_action_parent : EntityView → EntityUID → Bool
is_non_action_parent e q = set.contains e.parents q && not (is_action q)

-- Whether q is an indirect ancestor that is not an action.
abbrev pub is_non_action_ancestor : EntityView → EntityUID → Bool
is_non_action_ancestor e q = set.contains e.indirect q && not (is_action q)

-- Holds if the entity is not its own ancestor.
abbrev pub PassesSelf : EntityView → Type 0
PassesSelf e = has_ancestor e e.uid ≡ false

-- Holds if the entity is not its own ancestor, and no uid is both a parent and an indirect ancestor.
abbrev pub PassesDuplicates : EntityView → Type 0
PassesDuplicates e = PassesSelf e × NonePasses (is_in_both e)

-- Holds if all parents and all indirect ancestors are actions.
abbrev pub HasOnlyActionAncestors : EntityView → Type 0
HasOnlyActionAncestors e = NonePasses (is_non_action_parent e) × NonePasses (is_non_action_ancestor e)

-- Holds if the entity passes `PassesDuplicates` and, if it is an action, all its ancestors are actions.
abbrev pub PassesActions : EntityView → Type 0
PassesActions e = PassesDuplicates e × (IsTrue (is_action e.uid) → HasOnlyActionAncestors e)

-- Holds if p is the least parent that is not an action or, if there is none, the least indirect ancestor that is not an
-- action.
abbrev pub IsLeastNonAction : EntityView → EntityUID → Type 0
IsLeastNonAction e p = IsLeast (is_non_action_parent e) p
    ⊎ (NonePasses (is_non_action_parent e) × IsLeast (is_non_action_ancestor e) p)

-- Holds if the entity is valid: it passes the checks of ancestors and has no reserved key.
abbrev pub IsValid : EntityView → Type 0
IsValid e = PassesActions e × (reserved_key e ≡ None)

-- Holds if the error reports a fault of the entity, and the entity passes all checks before that one. `Memory`
-- satisfies it always.
abbrev pub IsFault : EntityView → EntitiesError → Type 0
IsFault e (errors.SelfAncestor u) = (u ≡ e.uid) × (has_ancestor e e.uid ≡ true)
IsFault e (errors.DuplicateAncestor u a) = (u ≡ e.uid) × PassesSelf e × IsLeast (is_in_both e) a
IsFault e (errors.ActionParentIsNotAction u p) = (u ≡ e.uid) × PassesDuplicates e × IsTrue (is_action e.uid)
    × IsLeastNonAction e p
IsFault e (errors.ReservedKey k) = PassesActions e × (reserved_key e ≡ Some (string_bytes k))
IsFault e errors.Memory = Unit {0}
IsFault e other = ⊥
