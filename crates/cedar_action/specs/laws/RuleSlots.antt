-- The slots in the expressions of action constraints.
use Rattle.std.specs.Prelude.{◌≡◌, List, [], ◌∷◌, ◌++◌, map, refl, false, if◌then◌else◌}
use Rattle.std.proofs.Common.{ap, ◌∙◌}
use Rattle.std.specs.List.{filter_map}
use Rattle.std.proofs.lemmas.List.Elements.{filter_map-append}
use Rattle.cedar_ids.specs.Uid.{UidParts}
use Rattle.cedar_terms.specs.ExprTree.{expr_trees}
use Rattle.cedar_terms.specs.Walk.{walk_back, slot_of, slots_of}
use Rattle.cedar_action.specs.Rules.{ActionRule, any_action, among, just, among_slot, just_slot}
use Rattle.cedar_terms.specs.UidTrees.{uid_expr}
use Rattle.cedar_terms.specs.declared.slot.SlotId.{SlotId}
use Rattle.cedar_terms.specs.declared.slot.SlotId.TheVariants.{Action}
use Rattle.cedar_action.specs.RuleReads.{rule_has_slot, filled_rule}
use Rattle.cedar_action.specs.RuleTrees.{rule_expr}

none_in_uids : (us : List UidParts) → filter_map slot_of (walk_back (expr_trees (map uid_expr us))) ≡ []
none_in_uids [] = refl
none_in_uids (u ∷ us) = filter_map-append slot_of (walk_back (expr_trees (map uid_expr us))) (uid_expr u ∷ [])
    ∙ ap (λ xs. xs ++ []) (none_in_uids us)

-- The action's slot if the rule refers to it, else nothing.
abbrev pub rule_slots : ActionRule → List SlotId
rule_slots a = if rule_has_slot a then Action ∷ [] else []

-- The slots in the expression of a rule are `rule_slots`.
pub slots_of-rule_expr : (a : ActionRule) → slots_of (rule_expr a) ≡ rule_slots a
slots_of-rule_expr any_action = refl
slots_of-rule_expr (among us) = filter_map-append slot_of (walk_back (expr_trees (map uid_expr us))) _
    ∙ ap (λ xs. xs ++ []) (none_in_uids us)
slots_of-rule_expr (just u) = refl
slots_of-rule_expr among_slot = refl
slots_of-rule_expr just_slot = refl

-- A filled rule has no slot.
pub rule_has_slot-filled : (u : UidParts) (a : ActionRule) → rule_has_slot (filled_rule u a) ≡ false
rule_has_slot-filled u any_action = refl
rule_has_slot-filled u (among us) = refl
rule_has_slot-filled u (just v) = refl
rule_has_slot-filled u among_slot = refl
rule_has_slot-filled u just_slot = refl
