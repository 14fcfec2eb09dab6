-- The cached query results of a store. Uids have numbers, which are positions in a list without duplicates.
use Rattle.std.specs.Prelude.{◌≡◌, ◌++◌, ℕ, List, Bool, false, Option, Some, nat_eq, slice_get}
use Rattle.std.specs.Cmp.Lexicographic.{pointwise}
use Rattle.std.specs.FinMap as finmap
use Rattle.std.specs.HashMap.{HashMap, get_by}
use Rattle.std.specs.List.{AllByRecursion, IsDistinct, list_any}
use Rattle.std.specs.Option.{IfSome, option_map_or}
use Rattle.std.specs.declared.vec.Vec.{Vec}
use Rattle.cedar_ids.specs.UidOf.{same_uid}
use Rattle.cedar_ids.specs.declared.entity.EntityUID.{EntityUID}
use Rattle.cedar_entity.specs.View.{EntityView, has_ancestor}
use Rattle.cedar_entity_maps.specs.Plain.{StoreView}
use Rattle.cedar_c_lists.specs.Texts.{IsReadOf}
use Rattle.cedar_c_stores.specs.declared.query_cache.QueryCache.{QueryCache}

-- The cached value of a text.
abbrev pub cached_at : {A X B : Type 0} → HashMap (Vec ℕ A) X B → List ℕ → Option X
cached_at m t = get_by (λ k. pointwise nat_eq t k.items) m

-- Holds if a uid has the number n.
abbrev pub IsNumbered : List EntityUID → ℕ → Type 0
IsNumbered us n = (u : EntityUID) × (slice_get us n ≡ Some u)

-- Whether n is the number of the uid q.
abbrev pub is_number_of : List EntityUID → EntityUID → ℕ → Bool
is_number_of us q n = option_map_or (same_uid q) (slice_get us n) false

-- Holds if a row contains exactly the numbers of the uids for which `test` returns true.
pub record AreNumbersOf (us : List EntityUID) (test : EntityUID → Bool) (row : List ℕ) : Type 0 where
  pub told : (q : EntityUID) → list_any (is_number_of us q) row ≡ test q
  pub given : AllByRecursion (IsNumbered us) row

-- Holds if a row contains exactly the numbers of the ancestors of the entity whose uid is in the text t.
abbrev pub IsRowAt : StoreView → List EntityUID → List ℕ → List ℕ → Type 0
IsRowAt S us t row = (u : EntityUID) × (e : EntityView) × IsReadOf u t × (finmap.get S.entities u ≡ Some e)
    × AreNumbersOf us (has_ancestor e) row

-- Holds if n is the number of the uid in the text t.
abbrev pub IsNumberOfText : List EntityUID → List ℕ → ℕ → Type 0
IsNumberOfText us t n = (v : EntityUID) × (slice_get us n ≡ Some v) × IsReadOf v t

-- Holds if vs is us with more uids appended, and appending adds no duplicates.
abbrev pub KeepsNumbers : List EntityUID → List EntityUID → Type 0
KeepsNumbers us vs = (more : List EntityUID) × (vs ≡ us ++ more) × (IsDistinct same_uid us → IsDistinct same_uid vs)

-- Holds if all cached results are correct for the store S: the uids with numbers are distinct, each cached row contains
-- the ancestors, and each cached number is correct.
pub record AreCached {B H : Type 0} (S : StoreView) (n : QueryCache B H) : Type 0 where
  pub distinct : IsDistinct same_uid n.numbers
  pub above : (t : List ℕ) → IfSome (cached_at n.above t) (λ o. IfSome o (λ row. IsRowAt S n.numbers t row.items))
  pub names : (t : List ℕ) → IfSome (cached_at n.names t) (IsNumberOfText n.numbers t)
