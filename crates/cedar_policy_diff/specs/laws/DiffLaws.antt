-- The laws of the difference of two policy sets:
--
-- - `diff_applies`: the difference of `a` and `b`, applied to `a`, gives `b`.
-- - `diff_self`: the difference of a set and itself is empty.
-- - `diff_is_empty`, `same_if_empty`: the difference is empty exactly if the sets have the same content.
-- - `binds_same`: sets with the same content bind each id equally.
use Rattle.std.specs.Prelude.{◌≡◌, ◌↔◌, ℕ, List, [], ◌++◌, not, Option, Some, None, is_some, refl}
use Rattle.std.specs.List.{filter, find, list_any}
use Rattle.std.proofs.Common.{cond, sym, ap, subst, ◌∙◌}
use Rattle.cedar_body.specs.Bodies.{BodyParts}
use Rattle.cedar_body.specs.BodyEquality.{same_body}
use Rattle.cedar_body.specs.laws.BodyLaws.{same_body_equiv, same_body_decides}
use Rattle.cedar_policy.specs.Policies.{PolicyParts, policy_id}
use Rattle.cedar_policy.specs.PolicyEquality.{same_policy}
use Rattle.cedar_policy.specs.laws.PolicyLaws.{same_policy_equiv, same_policy_decides}
use Rattle.cedar_policy_maps.specs.PolicySets.{SetParts, IsPolicySet, AreOnce, is_policy_at, is_body_at, bound_at}
use Rattle.cedar_policy_maps.specs.PolicySets.{binding_from}
use Rattle.cedar_policy_maps.specs.laws.OnceLaws.{once-filter}
use Rattle.cedar_policy_maps.specs.laws.TemplateLaws.{template_found}
use Rattle.cedar_policy_diff.specs.ListDiff.{changes, values_after, value_at, only_in_first}
use Rattle.cedar_policy_diff.specs.Diff.{SetDiff, diff_of, empty_diff, templates_of, body_id, is_relinking, policy_changes}
use Rattle.cedar_policy_diff.specs.Diff.{content_of, apply_diff, IsSameContent}
use Rattle.cedar_policy_diff.specs.laws.ListDiffLaws.{any_is_found, applied, split_at, all_at}
use Rattle.cedar_policy_diff.specs.laws.ListDiffLaws.{none_only, none_changed, same_ids, unpatched}

templates_once : (b : SetParts) → IsPolicySet b → AreOnce body_id (templates_of b)
templates_once b h = once-filter body_id (λ t. not (list_any (is_policy_at t.id) b.policies)) b.bodies h.bodies_once

-- The difference of `a` and `b`, applied to `a`, gives `b`: the same template and the same policy for each id.
pub diff_applies : (a b : SetParts) → IsPolicySet b
    → IsSameContent (apply_diff (content_of a) (diff_of a b)) (content_of b)
diff_applies a b h = record {
  templates = applied body_id same_body (templates_of a) (templates_of b)
      (values_after (changes body_id same_body (templates_of a) (templates_of b)))
      (λ t u. (same_body_decides t u).0)
      (λ i. all_at body_id same_body (templates_of a) (templates_of b) i (templates_once b h));
  policies = applied policy_id same_policy a.policies b.policies
      (values_after (filter (λ c. not (is_relinking c)) (policy_changes a b))
      ++ values_after (filter is_relinking (policy_changes a b)))
      (λ p q. (same_policy_decides p q).0)
      (λ i. split_at policy_id same_policy is_relinking a.policies b.policies i h.policies_once);
}

-- Sets with the same content have an empty difference.
pub diff_is_empty : (a b : SetParts) → IsPolicySet b → IsSameContent (content_of a) (content_of b)
    → diff_of a b ≡ empty_diff
diff_is_empty a b h s =
    let ts = templates_of a in
    let us = templates_of b in
    let no_template : changes body_id same_body ts us ≡ [] =
    none_changed body_id same_body ts us (templates_once b h) same_body_equiv.refl (λ i t e. s.templates i ∙ e) in
    let no_policy : policy_changes a b ≡ [] =
    none_changed policy_id same_policy a.policies b.policies h.policies_once same_policy_equiv.refl
    (λ i p e. s.policies i ∙ e) in
    let removed_templates : only_in_first body_id ts us ≡ [] =
    none_only body_id ts us (λ i e. sym (same_ids body_id ts us s.templates i) ∙ e) in
    let added_templates : only_in_first body_id us ts ≡ [] =
    none_only body_id us ts (λ i e. same_ids body_id ts us s.templates i ∙ e) in
    let removed : only_in_first policy_id a.policies b.policies ≡ [] =
    none_only policy_id a.policies b.policies
    (λ i e. sym (same_ids policy_id a.policies b.policies s.policies i) ∙ e) in
    let added : only_in_first policy_id b.policies a.policies ≡ [] =
    none_only policy_id b.policies a.policies
    (λ i e. same_ids policy_id a.policies b.policies s.policies i ∙ e) in
    λ k. record {
      removed_templates = removed_templates k;
      added_templates = added_templates k;
      changed_templates = no_template k;
      removed = removed k;
      added = added k;
      changed = filter (λ c. not (is_relinking c)) (no_policy k);
      relinked = filter is_relinking (no_policy k);
    }

-- Sets with an empty difference have the same content.
pub same_if_empty : (a b : SetParts) → IsPolicySet b → diff_of a b ≡ empty_diff
    → IsSameContent (content_of a) (content_of b)
same_if_empty a b h e =
    let same : IsSameContent (apply_diff (content_of a) empty_diff) (content_of b) =
    subst (λ d. IsSameContent (apply_diff (content_of a) d) (content_of b)) e (diff_applies a b h) in
    record {
      templates = λ i. ap (λ ts. value_at body_id ts i) (sym (unpatched body_id (templates_of a))) ∙ same.templates i;
      policies = λ i. ap (λ ps. value_at policy_id ps i) (sym (unpatched policy_id a.policies)) ∙ same.policies i;
    }

-- The difference of a set and itself is empty.
pub diff_self : (a : SetParts) → IsPolicySet a → diff_of a a ≡ empty_diff
diff_self a h = diff_is_empty a a h (record { templates = λ i. refl; policies = λ i. refl })

same_binding : (o : Option PolicyParts) (t u : Option BodyParts) → cond (is_some o) None t ≡ cond (is_some o) None u
    → binding_from o t ≡ binding_from o u
same_binding None t u e = ap (binding_from None) e
same_binding (Some p) t u e = refl

-- Sets with the same content bind each id equally: to equal static policies, templates or links, or not at all.
pub binds_same : (a b : SetParts) → IsSameContent (content_of a) (content_of b) → (i : List ℕ)
    → bound_at a i ≡ bound_at b i
binds_same a b s i =
    let t = find (is_body_at i) a.bodies in
    let u = find (is_body_at i) b.bodies in
    let has_a = any_is_found (is_policy_at i) a.policies ∙ ap is_some (s.policies i) in
    let has_b = any_is_found (is_policy_at i) b.policies in
    let same_body : cond (is_some (find (is_policy_at i) b.policies)) None t
    ≡ cond (is_some (find (is_policy_at i) b.policies)) None u =
    ap (λ v. cond v None t) (sym has_a) ∙ sym (template_found i a.bodies a.policies) ∙ s.templates i
    ∙ template_found i b.bodies b.policies ∙ ap (λ v. cond v None u) has_b in
    ap (λ o. binding_from o t) (s.policies i) ∙ same_binding (find (is_policy_at i) b.policies) t u same_body

-- `diff_applies` for a value that is equal to the difference.
pub applies_if : (a b : SetParts) (d : SetDiff) → IsPolicySet b → d ≡ diff_of a b
    → IsSameContent (apply_diff (content_of a) d) (content_of b)
applies_if a b d h e = subst (λ x. IsSameContent (apply_diff (content_of a) x) (content_of b)) (sym e)
    (diff_applies a b h)

-- `diff_is_empty` and `same_if_empty` for a value that is equal to the difference.
pub empty_if : (a b : SetParts) (d : SetDiff) → IsPolicySet b → d ≡ diff_of a b
    → (d ≡ empty_diff) ↔ IsSameContent (content_of a) (content_of b)
empty_if a b d h e = (λ f. same_if_empty a b h (sym e ∙ f), λ s. e ∙ diff_is_empty a b h s)
