-- The contents of an action constraint, and the filling of its slot.
use Rattle.std.specs.Prelude.{ℕ, List, [], ◌∷◌, Bool, true, false, not, reverse}
use Rattle.std.specs.List.{filter}
use Rattle.cedar_ids.specs.Uid.{UidParts, is_action_uid}
use Rattle.cedar_action.specs.Rules.{ActionRule, any_action, among, just, among_slot, just_slot}

-- The index of a rule's kind.
abbrev pub rule_kind : ActionRule → ℕ
rule_kind any_action = 0
rule_kind (among us) = 1
rule_kind (just u) = 2
rule_kind among_slot = 3
rule_kind just_slot = 4

-- The uids of a rule, in the order of its list.
abbrev pub rule_uids : ActionRule → List UidParts
rule_uids any_action = []
rule_uids (among us) = us
rule_uids (just u) = u ∷ []
rule_uids among_slot = []
rule_uids just_slot = []

-- The uids of a rule in the order of the iterator: a list from the back.
abbrev pub uids_given : ActionRule → List UidParts
uids_given any_action = []
uids_given (among us) = reverse us
uids_given (just u) = u ∷ []
uids_given among_slot = []
uids_given just_slot = []

-- Whether a uid is not the uid of an action.
abbrev pub is_no_action : UidParts → Bool
is_no_action u = not (is_action_uid u)

-- The uids of a rule that are not actions, in the order of its list and with repetitions.
abbrev pub non_actions : ActionRule → List UidParts
non_actions a = filter is_no_action (rule_uids a)

-- Whether a rule refers to the action's slot.
abbrev pub rule_has_slot : ActionRule → Bool
rule_has_slot any_action = false
rule_has_slot (among us) = false
rule_has_slot (just u) = false
rule_has_slot among_slot = true
rule_has_slot just_slot = true

-- The rule with the uid in place of the slot. `in ?action` becomes `in` a list of this uid, and `== ?action` becomes
-- `==` this uid. Any other rule is unchanged.
abbrev pub filled_rule : UidParts → ActionRule → ActionRule
filled_rule u any_action = any_action
filled_rule u (among us) = among us
filled_rule u (just v) = just v
filled_rule u among_slot = among (u ∷ [])
filled_rule u just_slot = just u
