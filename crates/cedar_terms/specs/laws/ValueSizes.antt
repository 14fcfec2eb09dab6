-- A value inside another value is smaller.
use Rattle.std.specs.Prelude.{◌≤◌, ◌+◌, max, List, [], ◌∷◌, String}
use Rattle.std.proofs.Common.{arith}
use Rattle.std.specs.declared.alloc.Global.{Global}
use Rattle.std.specs.Map.{values_of}
use denote.Param.Weighed.{most}
use Rattle.cedar_terms.specs.ValueTree.{ValueTree, value_size, values_size, fields_size, value_trees}
use Rattle.cedar_terms.specs.ValueViews.{kind_tree, field_trees}
use Rattle.cedar_terms.specs.declared.value.ValueKind.{ValueKind}
use Rattle.cedar_terms.specs.declared.value.ValueKind.TheVariants as kinds
use Rattle.cedar_terms.specs.declared.value.Value.TheDeep.{deep-ValueKind}

most_values : (vs : List ValueTree) → most (λ v. value_size v + 1) vs ≤ values_size (value_trees vs) + 1
most_values [] = omega arith
most_values (v ∷ vs) = omega (arith, most_values vs)

most_fields : (fs : List (String Global × ValueTree)) → most (λ v. value_size v + 1) (values_of fs) ≤ fields_size
    (field_trees fs) + 1
most_fields [] = omega arith
most_fields (f ∷ fs) = omega (arith, most_fields fs)

-- The depth of the parts is at most the size of the value.
pub deep_le_size : (k : ValueKind) → max (deep-ValueKind k) 0 ≤ value_size (kind_tree k)
deep_le_size (kinds.Lit l) = omega arith
deep_le_size (kinds.Set v) = omega (arith, most_values v.value.items)
deep_le_size (kinds.Record m) = omega (arith, most_fields m.value.entries)
deep_le_size (kinds.ExtensionValue x) = omega arith
