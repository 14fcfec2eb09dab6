-- Laws of the equality of policies.
use Rattle.std.specs.Prelude.{◌≡◌, ℕ, List, true, Option, Some, None, refl}
use Rattle.std.proofs.Common.{sym, ap, ◌∙◌}
use Rattle.std.specs.Bool.{Decides}
use Rattle.std.specs.Option.{option_eq}
use Rattle.std.specs.Cmp.{IsEquivalence, and_equiv, on_equiv, first_so, second_so}
use Rattle.std.specs.Cmp.Lexicographic.{options_equiv}
use Rattle.cedar_ids.specs.Texts.{same_text}
use Rattle.cedar_ids.specs.laws.TextLaws.{same_text_equiv, same_text_decides}
use Rattle.cedar_body.specs.BodyEquality.{same_body}
use Rattle.cedar_body.specs.laws.BodyLaws.{same_body_equiv, same_body_decides}
use Rattle.cedar_binding.specs.laws.EnvLaws.{same_env_equiv, same_env_decides}
use Rattle.cedar_policy.specs.Policies.{PolicyParts}
use Rattle.cedar_policy.specs.PolicyEquality.{same_policy}

-- `==` is an equivalence.
pub same_policy_equiv : IsEquivalence same_policy
same_policy_equiv =
    and_equiv (on_equiv (λ (p : PolicyParts). p.template) same_body_equiv)
    (and_equiv (on_equiv (λ (p : PolicyParts). p.link) (options_equiv same_text_equiv))
    (on_equiv (λ (p : PolicyParts). p.env) same_env_equiv))

same_link : (x y : Option (List ℕ)) → option_eq same_text x y ≡ true → x ≡ y
same_link None None e = refl
same_link None (Some j) e = absurd (cc)
same_link (Some i) None e = absurd (cc)
same_link (Some i) (Some j) e = ap Some ((same_text_decides i j).0 e)

-- `==` decides whether two policies are identical.
pub same_policy_decides : (p q : PolicyParts) → Decides (same_policy p q) (p ≡ q)
same_policy_decides p q = (
  λ e.
      let t : p.template ≡ q.template = (same_body_decides p.template q.template).0 (first_so _ _ e) in
      let rest = second_so (same_body p.template q.template) _ e in
      let l : p.link ≡ q.link = same_link p.link q.link (first_so _ _ rest) in
      let v : p.env ≡ q.env = (same_env_decides p.env q.env).0 (second_so (option_eq same_text p.link q.link) _ rest) in
      λ i. record { template = t i; link = l i; env = v i },
  λ e. sym (ap (same_policy p) e) ∙ same_policy_equiv.refl p,
)
