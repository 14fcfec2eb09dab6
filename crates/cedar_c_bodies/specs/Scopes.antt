-- Constraints of principal, action and resource from a number and parts of a text.
use Rattle.std.specs.Prelude.{◌≡◌, ◌⊎◌, ℕ, ◌≤◌, List, map}
use Rattle.cedar_ids.specs.Uid.{UidParts}
use Rattle.cedar_ids.specs.UidOf.{uid_parts}
use Rattle.cedar_ids.specs.declared.entity.EntityUID.{EntityUID}
use Rattle.cedar_scope.specs.Scope.{Constraint, any, within, equals, of_type, of_type_within, to_uid, to_slot}
use Rattle.cedar_action.specs.Rules.{ActionRule, any_action, among, just, among_slot, just_slot}
use Rattle.cedar_c_lists.specs.Answers.{part}
use Rattle.cedar_c_lists.specs.Texts.{AreReadAt, IsInside, IsOneUnread, IsReadAt, IsUnreadAt}
use Rattle.cedar_c_lists.specs.Uids.{IsNoName}
use Rattle.cedar_c_lists.specs.declared.layout.Span.{Span}
use Rattle.cedar_c_lists.specs.declared.reason.Reason.{Reason}
use Rattle.cedar_c_lists.specs.declared.reason.Reason.TheVariants as reasons
use Rattle.cedar_c_trees.specs.Reads.{IsNameAt}
use Rattle.cedar_c_bodies.specs.declared.layout.Scope.{Scope}

-- Holds if a part of a text is parsed as this uid.
abbrev pub EncodesUid : List ℕ → Span → UidParts → Type 0
EncodesUid text at u = (e : EntityUID) × IsReadAt text e at × (uid_parts e ≡ u)

-- Holds if w is the reason why a part of a text is not the name of a type.
abbrev pub IsNoTypeAt : List ℕ → Span → Reason → Type 0
IsNoTypeAt text at w =
    (w ≡ reasons.NoMemory) ⊎ (((w ≡ reasons.BadArgument) × (IsInside text at → ⊥))
    ⊎ ((w ≡ reasons.NotAName) × IsInside text at × IsNoName (part text at)))

-- ---- Principals and resources

-- Holds if this is the constraint of a principal or a resource with the kind of s:
--
-- - 0: anything
-- - 1: equal to a uid
-- - 2: equal to the uid bound to the slot
-- - 3: in a uid
-- - 4: in the uid bound to the slot
-- - 5: of a type
-- - 6: of a type and in a uid
-- - 7: of a type and in the uid bound to the slot
abbrev pub IsConstraintAt : List ℕ → Scope → Constraint → Type 0
IsConstraintAt text s any = s.kind ≡ 0
IsConstraintAt text s (equals (to_uid u)) = (s.kind ≡ 1) × EncodesUid text s.uid u
IsConstraintAt text s (equals to_slot) = s.kind ≡ 2
IsConstraintAt text s (within (to_uid u)) = (s.kind ≡ 3) × EncodesUid text s.uid u
IsConstraintAt text s (within to_slot) = s.kind ≡ 4
IsConstraintAt text s (of_type t) = (s.kind ≡ 5) × IsNameAt text s.ty t
IsConstraintAt text s (of_type_within t (to_uid u)) = (s.kind ≡ 6) × IsNameAt text s.ty t × EncodesUid text s.uid u
IsConstraintAt text s (of_type_within t to_slot) = (s.kind ≡ 7) × IsNameAt text s.ty t

-- Holds if the kind has a uid.
abbrev pub HasUid : ℕ → Type 0
HasUid kind = (kind ≡ 1) ⊎ ((kind ≡ 3) ⊎ (kind ≡ 6))

-- Holds if the kind has a type.
abbrev pub HasType : ℕ → Type 0
HasType kind = (5 ≤ kind) × (kind ≤ 7)

-- Holds if w is the reason why there is no constraint: the kind is invalid, or the part of its uid or its type is.
abbrev pub IsNoConstraintAt : List ℕ → Scope → Reason → Type 0
IsNoConstraintAt text s w =
    ((w ≡ reasons.BadArgument) × (8 ≤ s.kind))
    ⊎ ((HasUid s.kind × IsUnreadAt text s.uid w) ⊎ (HasType s.kind × IsNoTypeAt text s.ty w))

-- ---- Actions

-- Holds if this is the constraint of an action with the kind of s:
--
-- - 0: anything
-- - 1: equal to a uid
-- - 2: equal to the uid bound to the slot
-- - 3: in one of the uids of the list
-- - 4: in the uid bound to the slot
abbrev pub IsRuleAt : List ℕ → List Span → Scope → ActionRule → Type 0
IsRuleAt text uids s any_action = s.kind ≡ 0
IsRuleAt text uids s (just u) = (s.kind ≡ 1) × EncodesUid text s.uid u
IsRuleAt text uids s just_slot = s.kind ≡ 2
IsRuleAt text uids s (among us) =
    (s.kind ≡ 3) × ((es : List EntityUID) × AreReadAt text es uids × (us ≡ map uid_parts es))
IsRuleAt text uids s among_slot = s.kind ≡ 4

-- Holds if w is the reason why there is no constraint: an allocation failure, an invalid kind, or a part that is not
-- the text of a uid.
abbrev pub IsNoRuleAt : List ℕ → List Span → Scope → Reason → Type 0
IsNoRuleAt text uids s w =
    (w ≡ reasons.NoMemory) ⊎ (((w ≡ reasons.BadArgument) × (5 ≤ s.kind))
    ⊎ (((s.kind ≡ 1) × IsUnreadAt text s.uid w) ⊎ ((s.kind ≡ 3) × IsOneUnread text uids w)))
