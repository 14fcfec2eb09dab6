-- The equality and hash of bodies.
use Rattle.std.specs.Prelude.{ℕ, List, ◌++◌, Bool, ◌&&◌, Option}
use Rattle.std.specs.Option.{option_eq}
use Rattle.std.specs.Hash as fed
use Rattle.cedar_ids.specs.Texts.{same_text}
use Rattle.cedar_terms.specs.ExprTree.{ExprTree}
use Rattle.cedar_terms.specs.ExprEquality.{same_expr, expr_hash}
use Rattle.cedar_annotation.specs.AnnotationOrder.{same_annotations, annotations_hash}
use Rattle.cedar_scope.specs.ScopeOrder.{same_constraint, constraint_hash}
use Rattle.cedar_action.specs.RuleOrder.{same_rule, rule_hash}
use Rattle.cedar_body.specs.Effects.{same_effect, effect_hash}
use Rattle.cedar_body.specs.Bodies.{BodyParts}

-- Whether two clauses are both missing, or equal.
abbrev pub same_clause : Option ExprTree → Option ExprTree → Bool
same_clause = option_eq same_expr

-- Whether two bodies have equal ids, annotations, effects, constraints and clauses.
abbrev pub same_body : BodyParts → BodyParts → Bool
same_body x y =
    same_text x.id y.id
    && (same_annotations x.annotations y.annotations
    && (same_effect x.effect y.effect
    && (same_constraint x.principal y.principal
    && (same_rule x.action y.action && (same_constraint x.resource y.resource && same_clause x.clause y.clause)))))

-- The input that a clause feeds to a hasher: whether there is one, then the clause.
abbrev pub clause_hash : Option ExprTree → List (List ℕ)
clause_hash c = fed.option expr_hash c

-- The input that a body feeds to a hasher: its parts in order.
abbrev pub body_hash : BodyParts → List (List ℕ)
body_hash b =
    fed.str b.id
    ++ (annotations_hash b.annotations
    ++ (effect_hash b.effect
    ++ (constraint_hash b.principal ++ (rule_hash b.action ++ (constraint_hash b.resource ++ clause_hash b.clause)))))
