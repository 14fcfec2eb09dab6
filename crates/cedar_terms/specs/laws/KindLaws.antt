-- Laws of the equality and hash of the kinds of values.
use Rattle.std.specs.Prelude.{◌≡◌, true}
use Rattle.std.proofs.Common.{ap}
use Rattle.std.specs.Cmp.{IsEquivalence, on_equiv}
use Rattle.cedar_terms.specs.laws.ValueLaws.{same_value_equiv, same_value_decides}
use Rattle.cedar_terms.specs.ValueHash.{value_hash}
use Rattle.cedar_terms.specs.declared.value.ValueKind.{ValueKind}
use Rattle.cedar_terms.specs.ValueViews.{kind_hash, kind_tree, same_kind}

-- `==` is an equivalence.
pub same_kind_equiv : IsEquivalence same_kind
same_kind_equiv = on_equiv kind_tree same_value_equiv

-- Equal kinds have equal hashes.
pub kind_hash_respects : (x y : ValueKind) → same_kind x y ≡ true → kind_hash x ≡ kind_hash y
kind_hash_respects x y e = ap value_hash ((same_value_decides (kind_tree x) (kind_tree y)).0 e)
