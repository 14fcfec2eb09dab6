-- The order, equality and hash of action constraints.
use Rattle.std.specs.Prelude.{ℕ, List, ◌++◌, Bool}
use Rattle.std.specs.declared.cmp.Ordering.{Ordering}
use Rattle.std.specs.Ordering.{nat_cmp, on, then_cmp, eq_by_cmp}
use Rattle.std.specs.Cmp.Lexicographic.{slice_cmp}
use Rattle.std.specs.Hash as fed
use Rattle.cedar_ids.specs.Uid.{uid_cmp, uid_hash_input}
use Rattle.cedar_action.specs.Rules.{ActionRule}
use Rattle.cedar_action.specs.RuleReads.{rule_kind, rule_uids}

-- The order of rules: by kind, then by the uids item by item.
abbrev pub rule_cmp : ActionRule → ActionRule → Ordering
rule_cmp = then_cmp (on rule_kind nat_cmp) (on rule_uids (slice_cmp uid_cmp))

-- Whether two rules are equal: whether `rule_cmp` reports `Equal`.
abbrev pub same_rule : ActionRule → ActionRule → Bool
same_rule = eq_by_cmp rule_cmp

-- The input that a rule feeds to a hasher: the index of its kind, then its uids.
abbrev pub rule_hash : ActionRule → List (List ℕ)
rule_hash a = fed.u8 (rule_kind a) ++ fed.slice uid_hash_input (rule_uids a)
