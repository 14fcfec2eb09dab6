-- The effects of the calls that read an attribute or a tag, by the effects of the calls in `cedar_c_stores` on the
-- contents of a handle.
use Rattle.std.specs.Prelude.{◌≡◌, ℕ, List, Bool, Option, Some, None, Result}
use Rattle.cedar_c_lists.specs.Reasons.{WritesBool}
use Rattle.cedar_c_lists.specs.declared.reason.Reason.{Reason}
use Rattle.cedar_c_trees.specs.declared.node.Node.{Node}
use Rattle.cedar_c.specs.Copying.{CopiesOut}
use Rattle.cedar_c.specs.Statuses.{closed}
use Rattle.cedar_c.specs.StoreCalls.{HandleState}
use Rattle.cedar_c.specs.declared.store_handle.Inner.{Inner}

-- Holds for a call with the effect P on the contents of a handle, which also writes a Boolean. On a closed handle the
-- status is `closed`. After an error no Boolean is written.
abbrev pub GetsFrom : (Result Bool Reason → HandleState → HandleState → Type 0) → Option Inner → ℕ → Option Inner → Bool → Bool
    → Type 0
GetsFrom P None n new was has = (n ≡ closed) × (new ≡ None) × (has ≡ was)
GetsFrom P (Some i) n new was has = (r : Result Bool Reason) × WritesBool r n was has
    × ((j : Inner) × (new ≡ Some j) × P r i.kept j.kept)

-- Holds for a call that copies the nodes of the last value, from a position on. A closed handle has no nodes.
abbrev pub CopiesNodes : Option Inner → ℕ → List Node → ℕ → List Node → Type 0
CopiesNodes None from old told new = (told ≡ 0) × (new ≡ old)
CopiesNodes (Some i) from old told new = CopiesOut i.kept.nodes.items from old told new
