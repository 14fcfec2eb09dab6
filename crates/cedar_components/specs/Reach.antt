-- Reachability in a graph of numbers.
use Rattle.std.specs.Prelude.{◌≡◌, ℕ, ◌+◌, ◌<◌, ◌≤◌, List, [], ◌∷◌, length, slice_index}

-- Whether `from` and `to` are the arcs of a graph of the numbers below `n`.
pub record AreArcs (from to : List ℕ) (n : ℕ) : Type 0 where
  pub same_len : length to ≡ length from
  pub from_in : (k : ℕ) → k < length from → slice_index from k < n
  pub to_in : (k : ℕ) → k < length from → slice_index to k < n

-- Whether there is an arc from `a` to `b`.
abbrev pub HasArc : List ℕ → List ℕ → ℕ → ℕ → Type 0
HasArc from to a b = (k : ℕ) × (k < length from) × (slice_index from k ≡ a) × (slice_index to k ≡ b)

-- Whether the edges lead from `a` over the numbers `xs` to `b`. The last number of `xs` is `b`.
abbrev pub Walk : (ℕ → ℕ → Type 0) → ℕ → List ℕ → ℕ → Type 0
Walk E a [] b = a ≡ b
Walk E a (x ∷ xs) b = E a x × Walk E x xs b

-- Whether `b` is `a` or is reached from `a`.
unfoldable pub Leads : (ℕ → ℕ → Type 0) → ℕ → ℕ → Type 0
Leads E a b = (xs : List ℕ) × Walk E a xs b

-- Whether `b` is reached from `a` over at least one edge.
abbrev pub HasPath : (ℕ → ℕ → Type 0) → ℕ → ℕ → Type 0
HasPath E a b = (z : ℕ) × E a z × Leads E z b

-- Whether a list contains `y` at an index from `i` to before `j`.
abbrev pub IsWithin : List ℕ → ℕ → ℕ → ℕ → Type 0
IsWithin xs i j y = (k : ℕ) × (i ≤ k) × (k < j) × (slice_index xs k ≡ y)

-- Whether each number is at its place in the order.
pub record ArePlaces (order places : List ℕ) : Type 0 where
  pub within : (y : ℕ) → y < length places → slice_index places y < length order
  pub stands : (y : ℕ) → y < length places → slice_index order (slice_index places y) ≡ y

-- Whether each number below `n` has its place in the order. Example: in the order 2, 0, 1 the places are 1, 2, 0.
pub record IsRanking (n : ℕ) (order places : List ℕ) : Type 0 where
  pub len : length places ≡ n
  pub standing : ArePlaces order places

-- Whether the numbers of each list are in the order of their places.
abbrev pub AreInOrder : List ℕ → List ℕ → List ℕ → Type 0
AreInOrder places start lists = (q k m : ℕ) → q + 1 < length start → slice_index start q ≤ k → k < m
    → m < slice_index start (q + 1) → slice_index places (slice_index lists k) < slice_index places (slice_index lists m)

-- Whether the three lists describe what each number below `n` reaches. `component` has the index of a component for
-- each number. The numbers that component `q` reaches are in `lists`, from index `start[q]` to before `start[q + 1]`.
-- Example: in the graph 0 → 1 → 0, `component` can be 0, 0, `start` 0, 2 and `lists` 0, 1.
pub record IsReach (E : ℕ → ℕ → Type 0) (n : ℕ) (component start lists : List ℕ) : Type 0 where
  pub component_len : length component ≡ n
  pub component_in : (x : ℕ) → x < n → slice_index component x + 1 < length start
  pub ordered : (x : ℕ) → x < n
      → slice_index start (slice_index component x) ≤ slice_index start (slice_index component x + 1)
  pub inside : (x : ℕ) → x < n → slice_index start (slice_index component x + 1) ≤ length lists
  pub lists_in : (k : ℕ) → k < length lists → slice_index lists k < n
  pub sound : (x y : ℕ) → x < n
      → IsWithin lists (slice_index start (slice_index component x))
      (slice_index start (slice_index component x + 1)) y
      → HasPath E x y
  pub complete : (x y : ℕ) → x < n → HasPath E x y
      → IsWithin lists (slice_index start (slice_index component x))
      (slice_index start (slice_index component x + 1)) y
