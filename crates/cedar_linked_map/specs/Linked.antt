-- The order of a linked map. Its entries are in a table, and each has the places of the previous and the next entry.
use Rattle.std.specs.Prelude.{◌≡◌, ℕ, zero, suc, ◌-◌, ◌^◌, ◌<◌, ◌⊎◌, ◌+◌, ◌&&◌, not, false, List, [], ◌∷◌, ◌++◌, map}
use Rattle.std.specs.Prelude.{length, if◌then◌else◌, nat_eq, nat_lt, slice_get, Some}
use Rattle.std.specs.List.{filter_map, list_any}
use Rattle.std.specs.Option.{option_map_or}
use Rattle.cedar_linked_map.specs.declared.chain.Node.{Node}

-- The place before the first entry and after the last one. No entry has it.
abbrev pub end : ℕ
end = 2 ^ 64 - 1

module _ {K V : Type 0} where
  -- The entries without their links, in the order of the table.
  abbrev pub cells : List (K × Node V) → List (K × V)
  cells ns = map (λ e. (e.0, e.1.value)) ns

  -- The next place of the entry at a place, and its previous place.
  abbrev pub after_at : List (K × Node V) → ℕ → ℕ
  after_at ns u = option_map_or (λ e. e.1.after) (slice_get ns u) 0

  abbrev pub before_at : List (K × Node V) → ℕ → ℕ
  before_at ns u = option_map_or (λ e. e.1.before) (slice_get ns u) 0

  -- The same functions, where the first place comes after the end, and the last place before it.
  abbrev pub after_of : List (K × Node V) → ℕ → ℕ → ℕ
  after_of ns first u = if nat_eq u end then first else after_at ns u

  abbrev pub before_of : List (K × Node V) → ℕ → ℕ → ℕ
  before_of ns last u = if nat_eq u end then last else before_at ns u

-- Whether `u` is the place of an entry or the end.
abbrev pub IsPlaceOrEnd : ℕ → ℕ → Type 0
IsPlaceOrEnd n u = (u < n) ⊎ (u ≡ end)

-- The items at some places, in the order of the places.
abbrev pub picked : {X : Type 0} → List X → List ℕ → List X
picked es o = filter_map (slice_get es) o

-- The items at a place `u`, at the place after it, and so on: at most `n` items. `A` maps each place to the next one.
abbrev pub walk : {X : Type 0} → ℕ → List X → (ℕ → ℕ) → ℕ → List X
walk zero es A u = []
walk (suc n) es A u = option_map_or (λ e. e ∷ walk n es A (A u)) (slice_get es u) []

module _ (A B : ℕ → ℕ) where
  -- Whether `v` is the place after `u`, and `u` is the place before `v`.
  abbrev pub AreNeighbours : ℕ → ℕ → Type 0
  AreNeighbours u v = (A u ≡ v) × (B v ≡ u)

  -- Whether the links lead from `s` over the places of a list to `e`.
  abbrev pub IsPath : ℕ → List ℕ → ℕ → Type 0
  IsPath s [] e = AreNeighbours s e
  IsPath s (x ∷ xs) e = AreNeighbours s x × IsPath x xs e

-- Whether no place occurs twice in a list.
abbrev pub AreDistinct : List ℕ → Type 0
AreDistinct [] = Unit {0}
AreDistinct (x ∷ xs) = (list_any (nat_eq x) xs ≡ false) × AreDistinct xs

-- Whether a list has each place below `n` once, in the order of the links.
pub record IsOrder (n : ℕ) (A B : ℕ → ℕ) (o : List ℕ) : Type 0 where
  pub path : IsPath A B end o end
  pub apart : AreDistinct o
  pub has : (u : ℕ) → list_any (nat_eq u) o ≡ nat_lt u n
  pub len : length o ≡ n

-- The invariant of the links: they give some order of all entries.
abbrev pub AreLinked : {K V : Type 0} → List (K × Node V) → ℕ → ℕ → Type 0
AreLinked ns first last = (o : List ℕ) × IsOrder (length ns) (after_of ns first) (before_of ns last) o

-- The entries, in the order of the links.
abbrev pub in_order : {K V : Type 0} → List (K × Node V) → ℕ → List (K × V)
in_order ns first = walk (length ns) (cells ns) (after_at ns) first

-- Whether `fs` is `es` without one occurrence of `e`.
abbrev pub RemovesItem : {X : Type 0} → List X → X → List X → Type 0
RemovesItem {X} es e fs = (xs : List X) × (ys : List X) × (es ≡ xs ++ e ∷ ys) × (fs ≡ xs ++ ys)

-- Whether a list has each place below `n` except `i` once, in the order of the links.
pub record IsOrderWithout (n i : ℕ) (A B : ℕ → ℕ) (o : List ℕ) : Type 0 where
  pub path : IsPath A B end o end
  pub apart : AreDistinct o
  pub has : (u : ℕ) → list_any (nat_eq u) o ≡ (nat_lt u n && not (nat_eq u i))
  pub len : length o + 1 ≡ n

-- Whether `fs` is `es` with the value `v` in the entry that is at place `i` of the table.
abbrev pub Replaces : {K V : Type 0} → List (K × V) → ℕ → V → List (K × V) → List (K × V) → Type 0
Replaces {K} {V} es i v cs fs = (xs : List (K × V)) × (e : K × V) × (ys : List (K × V)) × (es ≡ xs ++ e ∷ ys)
    × (fs ≡ xs ++ (e.0, v) ∷ ys) × (slice_get cs i ≡ Some e)
