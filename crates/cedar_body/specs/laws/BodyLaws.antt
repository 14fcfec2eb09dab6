-- Laws of the equality and hash of bodies.
use Rattle.std.specs.Prelude.{◌≡◌, Bool, true, ◌&&◌, Option, Some, None, refl}
use Rattle.std.proofs.Common.{ap, sym, ◌∙◌}
use Rattle.std.specs.Bool.{Decides}
use Rattle.std.specs.Cmp.{IsEquivalence, on_equiv, and_equiv, first_so, second_so}
use Rattle.std.specs.Cmp.Lexicographic.{options_equiv}
use Rattle.cedar_ids.specs.laws.TextLaws.{same_text_equiv, same_text_decides}
use Rattle.cedar_terms.specs.ExprTree.{ExprTree}
use Rattle.cedar_terms.specs.laws.ExprLaws.{same_expr_equiv, same_expr_decides}
use Rattle.cedar_annotation.specs.laws.AnnotationOrders.{same_annotations_equiv, same_annotations_decides}
use Rattle.cedar_scope.specs.laws.ScopeOrders.{same_constraint_equiv, same_constraint_decides}
use Rattle.cedar_action.specs.laws.RuleOrders.{same_rule_equiv, same_rule_decides}
use Rattle.cedar_body.specs.laws.EffectLaws.{same_effect_equiv, same_effect_decides}
use Rattle.cedar_body.specs.Bodies.{BodyParts}
use Rattle.cedar_body.specs.BodyEquality.{same_clause, same_body, body_hash}
use Rattle.cedar_body.specs.Codes.{body_row, body_with}

-- `==` of clauses is an equivalence.
pub same_clause_equiv : IsEquivalence same_clause
same_clause_equiv = options_equiv same_expr_equiv

-- `==` of bodies is an equivalence.
pub same_body_equiv : IsEquivalence same_body
same_body_equiv =
    and_equiv (on_equiv (λ (b : BodyParts). b.id) same_text_equiv)
    (and_equiv (on_equiv (λ (b : BodyParts). b.annotations) same_annotations_equiv)
    (and_equiv (on_equiv (λ (b : BodyParts). b.effect) same_effect_equiv)
    (and_equiv (on_equiv (λ (b : BodyParts). b.principal) same_constraint_equiv)
    (and_equiv (on_equiv (λ (b : BodyParts). b.action) same_rule_equiv)
    (and_equiv (on_equiv (λ (b : BodyParts). b.resource) same_constraint_equiv)
    (on_equiv (λ (b : BodyParts). b.clause) same_clause_equiv))))))

-- `==` decides whether two clauses are identical.
pub same_clause_decides : (x y : Option ExprTree) → Decides (same_clause x y) (x ≡ y)
same_clause_decides None None = (λ e. refl, λ e. refl)
same_clause_decides None (Some y) = (λ e. absurd (cc), λ e. absurd (cc))
same_clause_decides (Some x) None = (λ e. absurd (cc), λ e. absurd (cc))
same_clause_decides (Some x) (Some y) = (
  λ e. ap Some ((same_expr_decides x y).0 e),
  λ e. sym (ap (same_clause (Some x)) e) ∙ (same_expr_decides x x).1 refl,
)

both_decide : {A B : Type 0} (p q : Bool) (x y : A × B) → Decides p (x.0 ≡ y.0) → Decides q (x.1 ≡ y.1)
    → Decides (p && q) (x ≡ y)
both_decide p q x y f g = (
  λ e i. (f.0 (first_so p q e) i, g.0 (second_so p q e) i),
  λ e. ap (λ r. r && q) (f.1 (ap (λ z. z.0) e)) ∙ g.1 (ap (λ z. z.1) e),
)

rows_decide : (x y : BodyParts) → Decides (same_body x y) (body_row x ≡ body_row y)
rows_decide x y =
    both_decide _ _ (body_row x) (body_row y) (same_text_decides x.id y.id)
    (both_decide _ _ _ _ (same_annotations_decides x.annotations y.annotations)
    (both_decide _ _ _ _ (same_effect_decides x.effect y.effect)
    (both_decide _ _ _ _ (same_constraint_decides x.principal y.principal)
    (both_decide _ _ _ _ (same_rule_decides x.action y.action)
    (both_decide _ _ _ _ (same_constraint_decides x.resource y.resource) (same_clause_decides x.clause y.clause))))))

-- `==` decides whether two bodies are identical.
pub same_body_decides : (x y : BodyParts) → Decides (same_body x y) (x ≡ y)
same_body_decides x y = (λ e. ap body_with ((rows_decide x y).0 e), λ e. (rows_decide x y).1 (ap body_row e))

-- Equal bodies have equal hashes.
pub body_hash_respects : (x y : BodyParts) → same_body x y ≡ true → body_hash x ≡ body_hash y
body_hash_respects x y e = ap body_hash ((same_body_decides x y).0 e)
