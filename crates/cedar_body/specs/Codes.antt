-- Codes by which a proof distinguishes effects and bodies.
use Rattle.std.specs.Prelude.{◌≡◌, ℕ, List, Bool, true, false, Option, refl}
use Rattle.std.specs.Coded.{Coded, code_by, coded×, coded_bool, coded_option}
use Rattle.cedar_ids.specs.Codes.{text_code}
use Rattle.cedar_terms.specs.ExprTree.{ExprTree}
use Rattle.cedar_terms.specs.Codes.{expr_code}
use Rattle.cedar_annotation.specs.Annotations.{AnnotationsView}
use Rattle.cedar_scope.specs.Scope.{Constraint}
use Rattle.cedar_action.specs.Rules.{ActionRule}
use Rattle.cedar_annotation.specs.Codes.{annotations_code}
use Rattle.cedar_scope.specs.Codes.{constraint_code}
use Rattle.cedar_action.specs.Codes.{rule_code}
use Rattle.cedar_body.specs.Bodies.{BodyParts}
use Rattle.cedar_body.specs.declared.effect.Effect.{Effect}
use Rattle.cedar_body.specs.declared.effect.Effect.TheVariants.{Permit, Forbid}

-- Whether an effect is `Permit`.
abbrev pub is_permit : Effect → Bool
is_permit Permit = true
is_permit Forbid = false

-- The effect that is `Permit` if the Boolean is true, else `Forbid`.
abbrev pub effect_where : Bool → Effect
effect_where true = Permit
effect_where false = Forbid

-- An effect is the one that `effect_where` returns for `is_permit`.
pub effect_where-is_permit : (e : Effect) → effect_where (is_permit e) ≡ e
effect_where-is_permit Permit = refl
effect_where-is_permit Forbid = refl

-- The code of effects.
abbrev pub effect_code : Coded Effect
effect_code = code_by Bool coded_bool is_permit effect_where effect_where-is_permit

-- The parts of a body, as nested pairs.
abbrev pub BodyRow : Type 0
BodyRow = List ℕ × (AnnotationsView × (Effect × (Constraint × (ActionRule × (Constraint × Option ExprTree)))))

-- The parts of a body, as nested pairs.
abbrev pub body_row : BodyParts → BodyRow
body_row b = (b.id, (b.annotations, (b.effect, (b.principal, (b.action, (b.resource, b.clause))))))

-- The body with these parts.
abbrev pub body_with : BodyRow → BodyParts
body_with p =
    record {
      id = p.0;
      annotations = p.1.0;
      effect = p.1.1.0;
      principal = p.1.1.1.0;
      action = p.1.1.1.1.0;
      resource =
          p.1.1.1.1.1.0;
      clause = p.1.1.1.1.1.1;
    }

-- The code of bodies.
abbrev pub body_code : Coded BodyParts
body_code =
    code_by BodyRow
    (coded× text_code (coded× annotations_code (coded× effect_code
    (coded× constraint_code (coded× rule_code (coded× constraint_code (coded_option expr_code)))))))
    body_row body_with (λ _. refl)
