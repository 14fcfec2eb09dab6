use Rattle.std.proofs.Common.{◌≡◌, ◌≤◌, ℕ, true, length, map, take, slice_get, Some}
use Rattle.std.specs.Set.{is_member}
use Rattle.std.specs.HashSet.{contains, hash_set_len}
use Rattle.indexmap.specs.IndexSet.{IsUnique}
use Rattle.cedar_graph.specs.laws.Arcs.{HasNumber}
use Rattle.cedar_graph.proofs.arcs.number_set.Given as goal

abbrev pub invariant-loop-key : goal.invariant-loop-key
invariant-loop-key g l =
    let eq = g.K.PartialEq.eq in
    record {
      unique : IsUnique eq l.keys;
      done : (q : g.row.K.Denot) → is_member eq (map (λ x. x.now) (take l.key-index l.key-items)) q ≡ true
          → HasNumber eq l.keys.keys q;
      all : (q : g.row.K.Denot) → is_member eq (map (λ x. x.now) l.key-items) q ≡ contains eq l.fix q;
      len : length l.keys.keys ≤ l.key-index;
      count : length l.key-items ≡ hash_set_len l.fix;
      only : (i : ℕ) (k : g.row.K.Denot) → slice_get l.keys.keys i ≡ Some k → contains eq l.fix k ≡ true;
    }
