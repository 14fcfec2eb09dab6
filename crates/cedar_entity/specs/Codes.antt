-- The codes by which a proof distinguishes fields and entities.
use Rattle.std.specs.Prelude.{◌≡◌, ◌⊎◌}
use Rattle.std.proofs.Common.{refl, inl, inr}
use Rattle.std.specs.Coded.{Coded, code_by, coded×, coded⊎, coded_list}
use Rattle.cedar_ids.specs.Codes.{uid_code, text_code}
use Rattle.cedar_ids.specs.declared.entity.EntityUID.{EntityUID}
use Rattle.cedar_uid_sets.specs.Codes.{uid_set_code}
use Rattle.cedar_uid_sets.specs.UidSets.{UidValues}
use Rattle.cedar_terms.specs.Codes.{value_code, expr_code}
use Rattle.cedar_terms.specs.ValueTree.{ValueTree}
use Rattle.cedar_terms.specs.ExprTree.{ExprTree}
use Rattle.cedar_terms.specs.declared.partial_value.PartialValue.{PartialValue}
use Rattle.cedar_terms.specs.declared.partial_value.PartialValue.TheVariants as partials
use Rattle.cedar_entity.specs.Fields.{Fields}
use Rattle.cedar_entity.specs.View.{EntityView}

-- The value or the expression of a partial value.
abbrev pub either_of : PartialValue → ValueTree ⊎ ExprTree
either_of (partials.Value v) = inl v
either_of (partials.Residual e) = inr e

-- The partial value of a value or an expression.
abbrev pub partial_of : ValueTree ⊎ ExprTree → PartialValue
partial_of (inl v) = partials.Value v
partial_of (inr e) = partials.Residual e

-- Converting a partial value to its content and back results in the same partial value.
pub partial_of-either_of : (p : PartialValue) → partial_of (either_of p) ≡ p
partial_of-either_of (partials.Value v) = refl
partial_of-either_of (partials.Residual e) = refl

-- The code of a partial value: a value or an expression.
abbrev pub partial_code : Coded PartialValue
partial_code = code_by (ValueTree ⊎ ExprTree) (coded⊎ value_code expr_code) either_of partial_of partial_of-either_of

-- The code of fields: the text and the value of each field.
abbrev pub fields_code : Coded Fields
fields_code = coded_list (coded× text_code partial_code)

-- The parts of an entity, in pairs.
abbrev pub Flat : Type 0
Flat = EntityUID × ((Fields × Fields) × (UidValues × UidValues))

-- The code of an entity: its parts.
abbrev pub view_code : Coded EntityView
view_code =
    code_by Flat (coded× uid_code (coded× (coded× fields_code fields_code) (coded× uid_set_code uid_set_code)))
    (λ e. (e.uid, ((e.attrs, e.tags), (e.parents, e.indirect))))
    (λ p. record { uid = p.0; attrs = p.1.0.0; tags = p.1.0.1; parents = p.1.1.0; indirect = p.1.1.1 }) (λ _. refl)
