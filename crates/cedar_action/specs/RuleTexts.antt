-- The printed texts of action constraints.
use Rattle.std.specs.Prelude.{ℕ, List, [], ◌∷◌, ◌++◌, Bool, true, Option, Some, None, if◌then◌else◌, codes}
use Rattle.std.specs.List.{list_all, flat_map}
use Rattle.cedar_ids.specs.Uid.{UidParts}
use Rattle.cedar_ids.specs.Printed.{printed_uid}
use Rattle.cedar_action.specs.Rules.{ActionRule, any_action, among, just, among_slot, just_slot}
use Rattle.cedar_terms.specs.UidTrees.{is_ascii_uid}

-- The text of a uid after another one: a comma and the uid.
abbrev pub after_comma : UidParts → List ℕ
after_comma u = codes "," ++ printed_uid u

-- The texts of uids, separated by commas without spaces.
abbrev pub uids_text : List UidParts → List ℕ
uids_text [] = []
uids_text (u ∷ us) = printed_uid u ++ flat_map after_comma us

-- The specified output of printing uids: their text if all eids are ASCII, else unspecified.
abbrev pub uids_output : List UidParts → Option (List ℕ)
uids_output us = if list_all is_ascii_uid us then Some (uids_text us) else None

-- The text of a rule: `action`, `action in [U,W]`, `action == U`, `action in ?action` or `action == ?action`.
abbrev pub rule_text : ActionRule → List ℕ
rule_text any_action = codes "action"
rule_text (among us) = codes "action in [" ++ (uids_text us ++ codes "]")
rule_text (just u) = codes "action == " ++ printed_uid u
rule_text among_slot = codes "action in ?action"
rule_text just_slot = codes "action == ?action"

-- Whether all eids in a rule are ASCII.
abbrev pub is_ascii_rule : ActionRule → Bool
is_ascii_rule any_action = true
is_ascii_rule (among us) = list_all is_ascii_uid us
is_ascii_rule (just u) = is_ascii_uid u
is_ascii_rule among_slot = true
is_ascii_rule just_slot = true

-- The specified output of printing a rule: its text if all eids are ASCII, else unspecified.
abbrev pub rule_output : ActionRule → Option (List ℕ)
rule_output a = if is_ascii_rule a then Some (rule_text a) else None
