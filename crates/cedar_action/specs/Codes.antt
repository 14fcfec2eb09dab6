-- Codes by which a proof distinguishes action constraints.
use Rattle.std.specs.Prelude.{◌≡◌, ℕ, List, [], ◌∷◌, refl, if◌then◌else◌, ◌==◌}
use Rattle.std.specs.Coded.{Coded, code_by, coded×, coded_ℕ, coded_list}
use Rattle.cedar_ids.specs.Uid.{UidParts}
use Rattle.cedar_ids.specs.Codes.{uid_parts_code}
use Rattle.cedar_action.specs.Rules.{ActionRule, any_action, among, just, among_slot, just_slot}
use Rattle.cedar_action.specs.RuleReads.{rule_kind, rule_uids}

-- The rule of kind 1 or 2 with these uids.
abbrev pub rule_with_uids : ℕ → List UidParts → ActionRule
rule_with_uids k [] = among []
rule_with_uids k (u ∷ us) = if k == 1 then among (u ∷ us) else just u

-- The rule of a kind with these uids.
abbrev pub rule_with : ℕ → List UidParts → ActionRule
rule_with k us =
    if k == 0 then any_action else (if k == 3 then among_slot else (if k == 4 then just_slot else rule_with_uids k us))

-- The rule made from the kind and the uids of a is a.
pub rule_with-parts : (a : ActionRule) → rule_with (rule_kind a) (rule_uids a) ≡ a
rule_with-parts any_action = refl
rule_with-parts (among []) = refl
rule_with-parts (among (u ∷ us)) = refl
rule_with-parts (just u) = refl
rule_with-parts among_slot = refl
rule_with-parts just_slot = refl

-- The code of action constraints.
abbrev pub rule_code : Coded ActionRule
rule_code =
    code_by (ℕ × List UidParts) (coded× coded_ℕ (coded_list uid_parts_code))
    (λ a. (rule_kind a, rule_uids a)) (λ p. rule_with p.0 p.1) rule_with-parts
