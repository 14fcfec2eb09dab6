-- The arcs of a graph, and chains of their indices.
use Rattle.std.specs.Prelude.{◌≡◌, ℕ, ◌-◌, ◌<◌, ◌≤◌, List, length, slice_index}
use Rattle.cedar_components.specs.Reach.{AreArcs, HasArc}
use Rattle.cedar_components.specs.declared.links.Arcs.{Arcs}

-- Whether `head` and `link` are the chains of the first `m` values of `ends`. `head` has one more than the last index
-- of a value, and `link` one more than the previous index of the same value. 0 means that there is none.
pub record AreLinksTo (ends : List ℕ) (m : ℕ) (head link : List ℕ) (n : ℕ) : Type 0 where
  pub head_len : length head ≡ n
  pub link_len : length link ≡ m
  pub head_in : (a : ℕ) → a < n → slice_index head a ≤ m
  pub head_end : (a : ℕ) → a < n → 0 < slice_index head a → slice_index ends (slice_index head a - 1) ≡ a
  pub head_all : (a k : ℕ) → a < n → k < m → slice_index ends k ≡ a → k < slice_index head a
  pub link_in : (k : ℕ) → k < m → slice_index link k ≤ k
  pub link_end : (k : ℕ) → k < m → 0 < slice_index link k
      → slice_index ends (slice_index link k - 1) ≡ slice_index ends k
  pub link_all : (j k : ℕ) → k < m → j < k → slice_index ends j ≡ slice_index ends k
      → j < slice_index link k

-- Whether `head` and `link` are the chains of a whole list.
abbrev pub AreLinks : List ℕ → List ℕ → List ℕ → ℕ → Type 0
AreLinks ends head link n = AreLinksTo ends (length ends) head link n

-- Whether `F` relates `y` to an index of the chain of `x`, at or after the index `at`.
abbrev pub FromChain : List ℕ → ℕ → ℕ → (ℕ → ℕ → Type 0) → ℕ → Type 0
FromChain ends x at F y = (k : ℕ) × (at ≤ k) × (k < length ends) × (slice_index ends k ≡ x) × F k y

-- Whether there is an arc from one number to another.
abbrev pub IsArc : Arcs → ℕ → ℕ → Type 0
IsArc a = HasArc a.from.now a.to.now

-- Whether the arcs are between numbers below `n`, and have chains by their source.
pub record AreForward (a : Arcs) (n : ℕ) : Type 0 where
  pub arcs : AreArcs a.from.now a.to.now n
  pub links : AreLinks a.from.now a.head.now a.link.now n

-- Whether the arcs are between numbers below `n`, and have chains by their target.
pub record AreBackward (a : Arcs) (n : ℕ) : Type 0 where
  pub arcs : AreArcs a.from.now a.to.now n
  pub links : AreLinks a.to.now a.head.now a.link.now n
