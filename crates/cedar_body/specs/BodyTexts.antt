-- The printed texts of bodies.
use Rattle.std.specs.Prelude.{ℕ, List, ◌++◌, Bool, true, ◌&&◌, Option, Some, None, if◌then◌else◌, codes}
use Rattle.cedar_terms.specs.ExprTree.{ExprTree}
use Rattle.cedar_terms.specs.ExprTexts.{expr_text, is_ascii_expr}
use Rattle.cedar_annotation.specs.Annotations.{annotations_text, are_ascii_annotations}
use Rattle.cedar_scope.specs.ScopeTexts.{constraint_text, is_ascii_constraint}
use Rattle.cedar_action.specs.RuleTexts.{rule_text, is_ascii_rule}
use Rattle.cedar_scope.specs.declared.variable.PrincipalOrResource.TheVariants as variables
use Rattle.cedar_body.specs.Effects.{effect_text}
use Rattle.cedar_body.specs.Bodies.{BodyParts}

-- The text of a clause: `;` if there is none. Else ` when {`, the clause on its own line with an indentation of two
-- spaces, and `};`.
abbrev pub clause_text : Option ExprTree → List ℕ
clause_text None = codes ";"
clause_text (Some e) = codes " when {\n  " ++ (expr_text e ++ codes "\n};")

-- The text of the effect and the constraints. The three constraints are in parentheses, each on its own line with an
-- indentation of two spaces, with commas between them.
abbrev pub head_text : BodyParts → List ℕ
head_text b =
    effect_text b.effect
    ++ (codes "(\n  "
    ++ (constraint_text variables.Principal b.principal
    ++ (codes ",\n  "
    ++ (rule_text b.action
    ++ (codes ",\n  " ++ (constraint_text variables.Resource b.resource ++ codes "\n)"))))))

-- The text of a body: the annotations, each on its own line, then the effect with the constraints, then the clause.
abbrev pub body_text : BodyParts → List ℕ
body_text b = annotations_text b.annotations ++ (head_text b ++ clause_text b.clause)

-- Whether all texts in a clause are ASCII.
abbrev pub is_ascii_clause : Option ExprTree → Bool
is_ascii_clause None = true
is_ascii_clause (Some e) = is_ascii_expr e

-- Whether all texts in the three constraints are ASCII.
abbrev pub is_ascii_head : BodyParts → Bool
is_ascii_head b = is_ascii_constraint b.principal && (is_ascii_rule b.action && is_ascii_constraint b.resource)

-- Whether all texts in a body are ASCII.
abbrev pub is_ascii_body : BodyParts → Bool
is_ascii_body b = are_ascii_annotations b.annotations && (is_ascii_head b && is_ascii_clause b.clause)

-- The specified output of printing a body: its text if all texts in it are ASCII, else unspecified.
abbrev pub body_output : BodyParts → Option (List ℕ)
body_output b = if is_ascii_body b then Some (body_text b) else None
