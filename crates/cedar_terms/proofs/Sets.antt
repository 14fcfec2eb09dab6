-- Sorting a list and removing its repetitions creates the set of its elements.
use Rattle.std.proofs.Common.{◌≡◌, List, []}
use Rattle.std.specs.List.Sorted.{IsPermutation, IsSorted}
use Rattle.std.specs.List.Retain.{IsFiltered, DiffersFromLast}
use Rattle.std.specs.List.{dedup}
use Rattle.std.proofs.lemmas.List.Filters.{dedup_is}
use Rattle.std.proofs.lemmas.List.Kept.{IsStrictlySortedBy-dedup, Contains-dedup, Contains-from_dedup}
use Rattle.std.proofs.lemmas.List.Sorted.{Contains-permutation, IsPermutation-sym}
use Rattle.std.proofs.Common.{refl, subst}
use Rattle.cedar_terms.specs.ValueTree.{ValueTree, set_value, value_trees, value_cmp, same_value}
use Rattle.cedar_terms.specs.laws.ValueLaws.{value_cmp_total, same_value_equiv, same_value_decides}
use Rattle.cedar_terms.specs.Fields.{IsSetOf}

set_of_dedup : (given sorted : List ValueTree) (v : ValueTree) → IsPermutation given sorted → IsSorted value_cmp sorted
    → v ≡ set_value (value_trees (dedup same_value sorted)) → IsSetOf given v
set_of_dedup given sorted v p s e = record {
  elements = dedup same_value sorted;
  is = e;
  ascending = IsStrictlySortedBy-dedup value_cmp_total (λ x y. refl) sorted s;
  has = λ w h. Contains-dedup same_value_equiv
      (λ x y. (same_value_decides x y).0) sorted w (Contains-permutation given sorted w p h);
  only =
      λ w h. Contains-permutation sorted given w (IsPermutation-sym given sorted p)
      (Contains-from_dedup same_value sorted w h);
}

pub set_made : (given sorted kept : List ValueTree) (v : ValueTree) → IsPermutation given sorted
    → IsSorted value_cmp sorted → IsFiltered (DiffersFromLast same_value) [] sorted kept
    → v ≡ set_value (value_trees kept) → IsSetOf given v
set_made given sorted kept v p s f e =
    set_of_dedup given sorted v p s (subst
    (λ (k : List ValueTree). v ≡ set_value (value_trees k)) (dedup_is same_value sorted kept f) e)
