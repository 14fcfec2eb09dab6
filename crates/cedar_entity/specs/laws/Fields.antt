-- Equality of fields.
use Rattle.std.specs.Prelude.{◌≡◌, ℕ, List, Bool, ◌&&◌}
use Rattle.std.proofs.Common.{refl, sym, ap, ◌∙◌}
use Rattle.std.specs.Bool.{Decides}
use Rattle.std.specs.Str.{bytes_eq}
use Rattle.std.specs.Cmp.{first_so, second_so}
use Rattle.std.specs.Cmp.Lexicographic.{bytes_decides}
use Rattle.cedar_terms.specs.PartialViews.{same_partial}
use Rattle.cedar_terms.specs.laws.PartialLaws.{same_partial_decides}
use Rattle.cedar_terms.specs.declared.partial_value.PartialValue.{PartialValue}

-- Whether two fields have the same key and the same value.
abbrev pub field_eq : List ℕ × PartialValue → List ℕ × PartialValue → Bool
field_eq a b = bytes_eq a.0 b.0 && same_partial a.1 b.1

-- `field_eq` decides whether two fields are equal.
pub field_decides : (a b : List ℕ × PartialValue) → Decides (field_eq a b) (a ≡ b)
field_decides a b = (
  λ h i. (
    (bytes_decides a.0 b.0).0 (first_so _ _ h) i,
    (same_partial_decides a.1 b.1).0
        (second_so (bytes_eq a.0 b.0) _ h) i,
  ),
  λ e. ap (λ c. field_eq a c) (sym e) ∙ ap (λ t. t && same_partial a.1 a.1) ((bytes_decides a.0 a.0).1 refl)
      ∙ (same_partial_decides a.1 a.1).1 refl,
)
