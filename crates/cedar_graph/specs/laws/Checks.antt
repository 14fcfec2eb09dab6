-- The findings of the check of a closed graph.
use Rattle.std.specs.Prelude.{◌≡◌, ℕ, ◌<◌, Bool, length, slice_index}
use Rattle.cedar_graph.specs.laws.Arcs.{IsKeyAt}
use Rattle.cedar_graph.specs.laws.Readings.{IsArc}
use Rattle.cedar_graph.specs.declared.arcs.Reading.{Reading}
use Rattle.cedar_graph.specs.declared.close.Known.{Known}

-- Holds if number a has an arc to each target of its targets.
abbrev pub IsClosedAt : (ℕ → ℕ → Type 0) → ℕ → Type 0
IsClosedAt E a = (b c : ℕ) → E a b → E b c → E a c

-- Holds if the key of number x is p, and there are arcs from x to a number with key q, and from there to a number with
-- key r. There is no arc from x to the last number.
abbrev pub LacksAt : {K S H : Type 0} → (K → K → Bool) → Reading K S H → ℕ → K → K → K → Type 0
LacksAt eq s x p q r = (b : ℕ) × (c : ℕ) × IsArc s x b × IsArc s b c × (IsArc s x c → ⊥) × IsKeyAt eq s.keys.keys x p
    × IsKeyAt eq s.keys.keys b q × IsKeyAt eq s.keys.keys c r

-- Holds if the numbers below n have arcs to all targets of their targets.
abbrev pub AreClosedBelow : (ℕ → ℕ → Type 0) → ℕ → Type 0
AreClosedBelow E n = (a : ℕ) → a < n → IsClosedAt E a

-- Holds if p, q and r show that a number has no arc to a target of one of its targets.
abbrev pub SomeLacks : {K S H : Type 0} → (K → K → Bool) → Reading K S H → K → K → K → Type 0
SomeLacks eq s p q r = (x : ℕ) × LacksAt eq s x p q r

-- Holds if the arc at place k leads from a known number to an unknown one.
pub record Leaks {K S H : Type 0} (s : Reading K S H) (known : Known) (k : ℕ) : Type 0 where
  pub within : k < length s.from.items
  pub starts : slice_index known.marks.items (slice_index s.from.items k) ≡ known.mark
  pub ends : slice_index known.marks.items (slice_index s.to.items k) ≡ known.mark → ⊥

-- Holds if each of the first n arcs that begins at a known number ends at a known number.
abbrev pub KeepsKnown : {K S H : Type 0} → Reading K S H → Known → ℕ → Type 0
KeepsKnown s known n = (k : ℕ) → k < n → slice_index known.marks.items (slice_index s.from.items k) ≡ known.mark
    → slice_index known.marks.items (slice_index s.to.items k) ≡ known.mark
