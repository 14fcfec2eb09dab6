-- Invariants of the computation of components.
use Rattle.std.specs.Prelude.{◌≡◌, ℕ, ◌+◌, ◌-◌, ◌*◌, ◌<◌, ◌≤◌, ◌⊎◌, ◌==◌}
use Rattle.std.specs.Prelude.{List, ◌∷◌, [], ◌++◌, if◌then◌else◌}
use Rattle.std.specs.Prelude.{length, slice_index, slice_set, sum_by}
use Rattle.cedar_components.specs.Reach.{Leads}
use Rattle.cedar_components.specs.laws.Numbers.{IsFrom}
use Rattle.cedar_components.specs.laws.Arcs.{IsArc, AreBackward}
use Rattle.cedar_components.specs.laws.Search.{IsFinishOrder}
use Rattle.cedar_components.specs.declared.components.Components.{Components}
use Rattle.cedar_components.specs.declared.components.Searched.{Searched}

-- 1 if the number is 0, else 0.
abbrev pub is_zero : ℕ → ℕ
is_zero x = if x == 0 then 1 else 0

-- The state while the component with root at index `b - 1` of the order is built. `component` has, for each number with
-- a component, one more than the index of its root in the order, and 0 for the others. The components with roots at
-- index `b` or later are complete. Numbers with an arc to a number of the queue at index `i` or later may still have no
-- component.
pub record AreComponentsFrom (E : ℕ → ℕ → Type 0) (n : ℕ) (out : List ℕ) (b : ℕ)
    (component queue : List ℕ) (i : ℕ) : Type 0 where
  pub component_len : length component ≡ n
  pub component_in : (x : ℕ) → x < n → slice_index component x ≤ length out
  pub above : (x : ℕ) → x < n → 0 < slice_index component x → b ≤ slice_index component x
  pub queue_in : (k : ℕ) → k < length queue
      → (slice_index queue k < n) × (slice_index component (slice_index queue k) ≡ b)
  pub to_root : (x : ℕ) → x < n → 0 < slice_index component x
      → Leads E x (slice_index out (slice_index component x - 1))
  pub spans : (x : ℕ) → x < n → 0 < slice_index component x
      → (s : ℕ) × (slice_index out s ≡ x) × (s < slice_index component x)
      × ((z : ℕ) → s ≤ z → z < slice_index component x
      → Leads E (slice_index out (slice_index component x - 1)) (slice_index out z))
  pub later : (z : ℕ) → b ≤ z → z < length out → 0 < slice_index component (slice_index out z)
  pub closed : (x v : ℕ) → x < n → v < n → 0 < slice_index component x → E v x
      → ((0 < slice_index component v) × (slice_index component x ≤ slice_index component v)) ⊎ IsFrom queue i x

-- Whether each number has a component, members of one component reach one another, and no edge leads to a higher
-- component.
pub record AreComponents (E : ℕ → ℕ → Type 0) (n count : ℕ) (component : List ℕ) : Type 0 where
  pub component_len : length component ≡ n
  pub component_in : (x : ℕ) → x < n → (0 < slice_index component x) × (slice_index component x ≤ count)
  pub mutual_ : (x y : ℕ) → x < n → y < n → slice_index component x ≡ slice_index component y → Leads E x y
  pub down : (x y : ℕ) → x < n → y < n → E x y → slice_index component y ≤ slice_index component x

-- Whether each number has one more than an index at which it occurs in the order.
pub record AreSingle (n : ℕ) (order component : List ℕ) : Type 0 where
  pub len : length component ≡ n
  pub within : (x : ℕ) → x < n → (0 < slice_index component x) × (slice_index component x ≤ length order)
  pub stands : (x : ℕ) → x < n → slice_index order (slice_index component x - 1) ≡ x

-- Whether no arc leads to a number with a higher component.
abbrev pub NoneLeadsUp : List ℕ → List ℕ → List ℕ → Type 0
NoneLeadsUp from to component =
    (k : ℕ) → k < length from → slice_index component (slice_index to k) ≤ slice_index component (slice_index from k)

-- Whether the arcs have chains by target, and the order is one in which a search finishes the numbers.
pub record IsSearched (g : Searched) : Type 0 where
  pub arcs : AreBackward g.arcs g.numbers
  pub order : IsFinishOrder (IsArc g.arcs) g.numbers g.order.now

-- Whether the components with roots at index `b` or later are complete, and the queue is empty.
pub record IsGathered (g : Searched) (b : ℕ) (s : Components) : Type 0 where
  pub searched : IsSearched g
  pub in_order : b ≤ length g.order.now
  pub empty : s.queue.items ≡ []
  pub components : AreComponentsFrom (IsArc g.arcs) g.numbers g.order.now b s.component.items [] 0

-- Whether the component with root at index `b - 1` is being built. All numbers with an arc to a number of the queue
-- before index `i` have a component.
pub record IsGathering (g : Searched) (b i : ℕ) (s : Components) : Type 0 where
  pub searched : IsSearched g
  pub some : 0 < b
  pub in_order : b ≤ length g.order.now
  pub components : AreComponentsFrom (IsArc g.arcs) g.numbers g.order.now b s.component.items s.queue.items i

-- Whether `x` has a component.
abbrev pub HasComponent : Components → ℕ → Type 0
HasComponent s x = 0 < slice_index s.component.items x

-- Whether number `v` gets component `b` and is appended to the queue.
pub record Joins (v b : ℕ) (old new : Components) : Type 0 where
  pub component : new.component.items ≡ slice_set old.component.items v b
  pub queue : new.queue.items ≡ old.queue.items ++ v ∷ []

-- The remaining work: 2 for each number without a component, and 1 for each number of the queue.
abbrev pub work_left : Components → ℕ
work_left s = 2 * sum_by is_zero s.component.items + length s.queue.items

-- Whether `v` has an arc to the number at index `i` of the queue.
pub record HasArcToPlace (g : Searched) (s : Components) (i v : ℕ) : Type 0 where
  pub in_queue : i < length s.queue.items
  pub within : v < g.numbers
  pub arc : IsArc g.arcs v (slice_index s.queue.items i)

-- Whether the component only grows, and all numbers of the queue before index `i` are processed.
pub record Gathers (g : Searched) (b i : ℕ) (old new : Components) : Type 0 where
  pub state : IsGathering g b i new
  pub less : work_left new ≤ work_left old
  pub longer : length old.queue.items ≤ length new.queue.items
  pub stays : (x : ℕ) → HasComponent old x → HasComponent new x
