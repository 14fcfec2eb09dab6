use Rattle.std.specs.Prelude.{◌≡◌, ◌<◌, ℕ, List, [], Some, length, slice_get, take}
use Rattle.cedar_ids.specs.declared.entity.EntityUID.{EntityUID}
use Rattle.cedar_c_lists.specs.declared.layout.Edge.{Edge}
use Rattle.cedar_c_stores.specs.Lists.{IsEdgeOf}
use Rattle.cedar_c_stores.specs.laws.Listed.{listed_from}
use Rattle.cedar_c_stores.proofs.listing.push_parents.Given as goal

abbrev pub invariant-loop-edge : goal.invariant-loop-edge
invariant-loop-edge l =
    (length l.listed.items ≡ length l.initial.listed.items)
    × ((us : List EntityUID) → l.initial.listed.items ≡ listed_from l.uids [] 0 us
    → l.listed.items ≡ listed_from l.uids (take l.edge-index l.edges) 0 us)
    × ((k : ℕ) (e : Edge) → k < l.edge-index → slice_get l.edges k ≡ Some e
    → IsEdgeOf (length l.initial.listed.items) (length l.uids) e)
