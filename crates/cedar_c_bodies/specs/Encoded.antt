-- Constraints of principal, action and resource as a number and texts.
use Rattle.std.specs.Prelude.{◌≡◌, ℕ, List, [], ◌∷◌}
use Rattle.std.specs.List.{AllZip}
use Rattle.std.specs.Option.{IfSome}
use Rattle.cedar_ids.specs.Name.{NameParts}
use Rattle.cedar_ids.specs.Printed.{printed_name, uid_output}
use Rattle.cedar_ids.specs.Uid.{UidParts}
use Rattle.cedar_scope.specs.Scope.{Constraint, any, within, equals, of_type, of_type_within, to_uid, to_slot}
use Rattle.cedar_action.specs.Rules.{ActionRule, any_action, among, just, among_slot, just_slot}

-- Holds if the text is a text of the uid: the printed uid if the eid is ASCII, and any text otherwise.
abbrev pub IsUidText : UidParts → List ℕ → Type 0
IsUidText u text = IfSome (uid_output u) (λ t. text ≡ t)

-- Holds if the list has one text of the uid.
abbrev pub IsOneUid : UidParts → List (List ℕ) → Type 0
IsOneUid u texts = (t : List ℕ) × IsUidText u t × (texts ≡ t ∷ [])

-- Holds if the list has the text of the type and a text of the uid.
abbrev pub IsTypeAndUid : NameParts → UidParts → List (List ℕ) → Type 0
IsTypeAndUid t u texts = (x : List ℕ) × IsUidText u x × (texts ≡ printed_name t ∷ x ∷ [])

-- Holds if n is the kind of the constraint, and the texts are the texts of its type and its uid, in this order.
abbrev pub EncodesConstraint : Constraint → ℕ → List (List ℕ) → Type 0
EncodesConstraint any n texts = (n ≡ 0) × (texts ≡ [])
EncodesConstraint (equals (to_uid u)) n texts = (n ≡ 1) × IsOneUid u texts
EncodesConstraint (equals to_slot) n texts = (n ≡ 2) × (texts ≡ [])
EncodesConstraint (within (to_uid u)) n texts = (n ≡ 3) × IsOneUid u texts
EncodesConstraint (within to_slot) n texts = (n ≡ 4) × (texts ≡ [])
EncodesConstraint (of_type t) n texts = (n ≡ 5) × (texts ≡ printed_name t ∷ [])
EncodesConstraint (of_type_within t (to_uid u)) n texts = (n ≡ 6) × IsTypeAndUid t u texts
EncodesConstraint (of_type_within t to_slot) n texts = (n ≡ 7) × (texts ≡ printed_name t ∷ [])

-- Holds if n is the kind of the constraint of an action, and the texts are the texts of its uids.
abbrev pub EncodesRule : ActionRule → ℕ → List (List ℕ) → Type 0
EncodesRule any_action n texts = (n ≡ 0) × (texts ≡ [])
EncodesRule (just u) n texts = (n ≡ 1) × IsOneUid u texts
EncodesRule just_slot n texts = (n ≡ 2) × (texts ≡ [])
EncodesRule (among us) n texts = (n ≡ 3) × AllZip IsUidText us texts
EncodesRule among_slot n texts = (n ≡ 4) × (texts ≡ [])
