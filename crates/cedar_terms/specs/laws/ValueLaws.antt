-- Laws of the equality, order and hash of values, and the keys of values.
use Rattle.std.specs.Prelude.{◌≡◌, zero, suc, pos, refl, true}
use Rattle.std.proofs.Common.{ap, sym, ◌∙◌, subst}
use Rattle.std.specs.Bool.{Decides}
use Rattle.std.specs.Ordering.{is_eq, ordering_then, as_partial_cmp}
use Rattle.std.specs.Cmp.{IsTotalOrder, IsEquivalence, IsPartialOrder, on_total, eq_by_cmp_equiv, Equal-is, tied_itself}
use Rattle.std.specs.Cmp.{po}
use Rattle.cedar_terms.specs.laws.KeyLaws.{key_cmp-Equal, key_cmp_total, left_at, right_at, read_back, text_at}
use Rattle.cedar_terms.specs.laws.KeyLaws.{text_at-text_key, text_key-cmp}
use Rattle.cedar_terms.specs.Keys.{Key, tip, fork, key_cmp, nat_key, text_key, name_key}
use Rattle.cedar_terms.specs.laws.NameKeyLaws.{name_at, name_at-name_key, name_key-cmp}
use Rattle.cedar_terms.specs.laws.LiteralLaws.{literal_at, literal_at-literal_key, literal_key-cmp}
use Rattle.cedar_terms.specs.ExprKeys.{literal_key}
use Rattle.cedar_terms.specs.ValueTree.{ValueTree, literal_value, set_value, record_value, extension_value, ValueTrees}
use Rattle.cedar_terms.specs.ValueTree.{no_values, value_then, FieldTrees, no_fields, field_then, value_cmp, values_cmp}
use Rattle.cedar_terms.specs.ValueTree.{fields_cmp, same_value}
use Rattle.cedar_terms.specs.ValueHash.{value_hash}

-- The key of a value: the index of its kind, and the keys of its contents.
abbrev mutual
  pub value_key : ValueTree → Key
  value_key (literal_value l) = fork (nat_key 0) (literal_key l)
  value_key (set_value vs) = fork (nat_key 1) (values_key vs)
  value_key (record_value fs) = fork (nat_key 2) (fields_key fs)
  value_key (extension_value f a) = fork (nat_key 3) (fork (name_key f) (text_key a))

  pub values_key : ValueTrees → Key
  values_key no_values = nat_key 0
  values_key (value_then v vs) = fork (value_key v) (values_key vs)

  pub fields_key : FieldTrees → Key
  fields_key no_fields = nat_key 0
  fields_key (field_then k v fs) = fork (fork (text_key k) (value_key v)) (fields_key fs)

-- The value with this key.
abbrev mutual
  pub value_at : Key → ValueTree
  value_at (fork (tip (pos zero)) k) = literal_value (literal_at k)
  value_at (fork (tip (pos (suc zero))) k) = set_value (values_at k)
  value_at (fork (tip (pos (suc (suc zero)))) k) = record_value (fields_at k)
  value_at k = extension_value (name_at (left_at (right_at k))) (text_at (right_at (right_at k)))

  pub values_at : Key → ValueTrees
  values_at (fork k l) = value_then (value_at k) (values_at l)
  values_at k = no_values

  pub fields_at : Key → FieldTrees
  fields_at (fork (fork k l) m) = field_then (text_at k) (value_at l) (fields_at m)
  fields_at k = no_fields

-- Decoding the key of a value gives the value.
mutual
  pub value_at-value_key : (x : ValueTree) → value_at (value_key x) ≡ x
  value_at-value_key (literal_value l) = ap literal_value (literal_at-literal_key l)
  value_at-value_key (set_value vs) = ap set_value (values_at-values_key vs)
  value_at-value_key (record_value fs) = ap record_value (fields_at-fields_key fs)
  value_at-value_key (extension_value f a) = λ i. extension_value (name_at-name_key f i) (text_at-text_key a i)

  pub values_at-values_key : (x : ValueTrees) → values_at (values_key x) ≡ x
  values_at-values_key no_values = refl
  values_at-values_key (value_then v vs) = λ i. value_then (value_at-value_key v i) (values_at-values_key vs i)

  pub fields_at-fields_key : (x : FieldTrees) → fields_at (fields_key x) ≡ x
  fields_at-fields_key no_fields = refl
  fields_at-fields_key (field_then k v fs) = λ i. field_then (text_at-text_key k i) (value_at-value_key v i)
      (fields_at-fields_key fs i)

-- Values with equal keys are equal.
pub value_key-inj : (x y : ValueTree) → value_key x ≡ value_key y → x ≡ y
value_key-inj x y e = read_back value_key value_at value_at-value_key x y e

-- Values are ordered as their keys.
mutual
  pub value_key-cmp : (x y : ValueTree) → key_cmp (value_key x) (value_key y) ≡ value_cmp x y
  value_key-cmp (literal_value a) (literal_value b) = literal_key-cmp a b
  value_key-cmp (literal_value a) (set_value b) = refl
  value_key-cmp (literal_value a) (record_value b) = refl
  value_key-cmp (literal_value a) (extension_value g b) = refl
  value_key-cmp (set_value a) (literal_value b) = refl
  value_key-cmp (set_value a) (set_value b) = values_key-cmp a b
  value_key-cmp (set_value a) (record_value b) = refl
  value_key-cmp (set_value a) (extension_value g b) = refl
  value_key-cmp (record_value a) (literal_value b) = refl
  value_key-cmp (record_value a) (set_value b) = refl
  value_key-cmp (record_value a) (record_value b) = fields_key-cmp a b
  value_key-cmp (record_value a) (extension_value g b) = refl
  value_key-cmp (extension_value f a) (literal_value b) = refl
  value_key-cmp (extension_value f a) (set_value b) = refl
  value_key-cmp (extension_value f a) (record_value b) = refl
  value_key-cmp (extension_value f a) (extension_value g b) =
      λ i. ordering_then (name_key-cmp f g i) (text_key-cmp a b i)

  pub values_key-cmp : (x y : ValueTrees) → key_cmp (values_key x) (values_key y) ≡ values_cmp x y
  values_key-cmp no_values no_values = refl
  values_key-cmp no_values (value_then w ws) = refl
  values_key-cmp (value_then v vs) no_values = refl
  values_key-cmp (value_then v vs) (value_then w ws) = λ i. ordering_then (value_key-cmp v w i) (values_key-cmp vs ws i)

  pub fields_key-cmp : (x y : FieldTrees) → key_cmp (fields_key x) (fields_key y) ≡ fields_cmp x y
  fields_key-cmp no_fields no_fields = refl
  fields_key-cmp no_fields (field_then l w ws) = refl
  fields_key-cmp (field_then k v vs) no_fields = refl
  fields_key-cmp (field_then k v vs) (field_then l w ws) =
      λ i. ordering_then (ordering_then (text_key-cmp k l i) (value_key-cmp v w i)) (fields_key-cmp vs ws i)

-- The order of values is total.
pub value_cmp_total : IsTotalOrder value_cmp
value_cmp_total = subst IsTotalOrder (λ i x y. value_key-cmp x y i) (on_total value_key key_cmp_total)

-- `==` is an equivalence.
pub same_value_equiv : IsEquivalence same_value
same_value_equiv = eq_by_cmp_equiv value_cmp_total

-- The order is a partial order that agrees with `==`.
pub value_po : IsPartialOrder same_value (as_partial_cmp value_cmp)
value_po = po value_cmp_total (λ x y. refl)

-- `==` decides whether two values are identical.
pub same_value_decides : (x y : ValueTree) → Decides (same_value x y) (x ≡ y)
same_value_decides x y = (
  λ e. value_key-inj x y (key_cmp-Equal (value_key x) (value_key y) (value_key-cmp x y
      ∙ (Equal-is (value_cmp x y)).0 e)),
  λ e. ap (λ z. is_eq (value_cmp x z)) (sym e) ∙ ap is_eq (tied_itself value_cmp_total x),
)

-- Equal values have equal hashes.
pub value_hash_respects : (x y : ValueTree) → same_value x y ≡ true → value_hash x ≡ value_hash y
value_hash_respects x y e = ap value_hash ((same_value_decides x y).0 e)
