use Rattle.std.proofs.Common.{◌≡◌, ℕ, ◌<◌, []}
use Rattle.cedar_components.specs.laws.Search.{Searches, IsSeen}
use Rattle.cedar_components.proofs.search.finish_order.Given as goal

abbrev pub invariant-loop-root : goal.invariant-loop-root
invariant-loop-root l = record {
  searches : Searches l.arcs l.n l.s;
  no_path : l.s.path.items ≡ [];
  so_far : (x : ℕ) → x < l.root → IsSeen l.s x;
}
