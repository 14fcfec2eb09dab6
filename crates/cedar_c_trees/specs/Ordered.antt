-- Values as `Value::set` and `Value::record` build them, and the decoding of encoded nodes.
use Rattle.std.specs.Prelude.{◌≡◌, ℕ, List, [], ◌∷◌}
use Rattle.std.specs.Cmp.Lexicographic.{slice_cmp}
use Rattle.std.specs.List.Sorted.{IsStrictlySortedBy}
use Rattle.std.specs.Ordering.{nat_cmp}
use Rattle.cedar_terms.specs.Fields.{field_keys}
use Rattle.cedar_terms.specs.ValueTree.{ValueTree, literal_value, set_value, record_value, extension_value, value_cmp}
use Rattle.cedar_terms.specs.ValueTree.{ValueTrees, no_values, value_then, FieldTrees, no_fields, field_then}
use Rattle.cedar_c_trees.specs.Items.{Item}
use Rattle.cedar_c_trees.specs.Reads.{IsReadAs}
use Rattle.cedar_c_trees.specs.declared.node.Node.{Node}

-- The values of a list.
abbrev pub value_list : ValueTrees → List ValueTree
value_list no_values = []
value_list (value_then v vs) = v ∷ value_list vs

-- Holds if the elements of each set ascend, and the keys of each record ascend.
abbrev mutual
  pub IsOrdered : ValueTree → Type 0
  IsOrdered (literal_value l) = Unit {0}
  IsOrdered (set_value vs) = IsStrictlySortedBy value_cmp (value_list vs) × AreOrdered vs
  IsOrdered (record_value fs) = IsStrictlySortedBy (slice_cmp nat_cmp) (field_keys fs) × HaveOrdered fs
  IsOrdered (extension_value f a) = Unit {0}

  -- Holds if each of the values is ordered.
  pub AreOrdered : ValueTrees → Type 0
  AreOrdered no_values = Unit {0}
  AreOrdered (value_then v vs) = IsOrdered v × AreOrdered vs

  -- Holds if the value of each field is ordered.
  pub HaveOrdered : FieldTrees → Type 0
  HaveOrdered no_fields = Unit {0}
  HaveOrdered (field_then k v fs) = IsOrdered v × HaveOrdered fs

-- Holds if the nodes are decoded as v, and as nothing else.
pub record IsOnlyRead {V : Type 0} (C : Item → List V → V → Type 0) (text : List ℕ) (ns : List Node) (v : V)
    : Type 0 where
  pub read : IsReadAs C text ns v
  pub only : (w : V) → IsReadAs C text ns w → w ≡ v
