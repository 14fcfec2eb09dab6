-- Laws of the order, equality and hash of action constraints.
use Rattle.std.specs.Prelude.{◌≡◌, List, true}
use Rattle.std.proofs.Common.{ap, sym, ◌∙◌}
use Rattle.std.specs.Bool.{Decides}
use Rattle.std.specs.declared.cmp.Ordering.TheVariants.{Equal}
use Rattle.std.specs.Ordering.{nat_cmp, is_eq}
use Rattle.std.specs.Cmp.{IsTotalOrder, IsEquivalence, on_total, then_total, nat_cmp_total, eq_by_cmp_equiv, Equal-is}
use Rattle.std.specs.Cmp.{tied_itself}
use Rattle.std.specs.Cmp.Lexicographic.{slice_cmp, lists_total}
use Rattle.cedar_ids.specs.Uid.{UidParts, uid_cmp}
use Rattle.cedar_ids.specs.laws.UidLaws.{uid_cmp_total}
use Rattle.cedar_terms.specs.laws.KeyLaws.{key_cmp-Equal, list_key-inj, list_key-cmp}
use Rattle.cedar_terms.specs.Keys.{list_key, uid_key}
use Rattle.cedar_terms.specs.laws.NameKeyLaws.{uid_key-inj, uid_key-cmp}
use Rattle.cedar_action.specs.Rules.{ActionRule}
use Rattle.cedar_action.specs.RuleReads.{rule_kind, rule_uids}
use Rattle.cedar_action.specs.RuleOrder.{rule_cmp, same_rule, rule_hash}
use Rattle.cedar_action.specs.Codes.{rule_with, rule_with-parts}
use Rattle.cedar_terms.specs.laws.Tied.{kinds_tied, then_tied}

pub rule_cmp_total : IsTotalOrder rule_cmp
rule_cmp_total = then_total (on_total rule_kind nat_cmp_total) (on_total rule_uids (lists_total uid_cmp_total))

pub same_rule_equiv : IsEquivalence same_rule
same_rule_equiv = eq_by_cmp_equiv rule_cmp_total

lists_tied : (us vs : List UidParts) → slice_cmp uid_cmp us vs ≡ Equal → us ≡ vs
lists_tied us vs e =
    list_key-inj uid_key uid_key-inj us vs
    (key_cmp-Equal (list_key uid_key us) (list_key uid_key vs) (list_key-cmp uid_key uid_cmp uid_key-cmp us vs ∙ e))

pub rules_tied : (x y : ActionRule) → rule_cmp x y ≡ Equal → x ≡ y
rules_tied x y e =
    let p = then_tied (nat_cmp (rule_kind x) (rule_kind y)) _ e in
    let k : rule_kind x ≡ rule_kind y = kinds_tied _ _ p.0 in
    let us : rule_uids x ≡ rule_uids y = lists_tied _ _ p.1 in
    sym (rule_with-parts x) ∙ (λ i. rule_with (k i) (us i)) ∙ rule_with-parts y

pub same_rule_decides : (x y : ActionRule) → Decides (same_rule x y) (x ≡ y)
same_rule_decides x y = (
  λ e. rules_tied x y ((Equal-is (rule_cmp x y)).0 e),
  λ e. ap (λ z. is_eq (rule_cmp x z)) (sym e) ∙ ap is_eq (tied_itself rule_cmp_total x),
)

pub rule_hash_respects : (x y : ActionRule) → same_rule x y ≡ true → rule_hash x ≡ rule_hash y
rule_hash_respects x y e = ap rule_hash ((same_rule_decides x y).0 e)
