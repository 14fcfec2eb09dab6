-- The results of the calls that read the store of a handle, by the effects of the calls in `cedar_c_stores` on its
-- contents.
use Rattle.std.specs.Prelude.{◌≡◌, ℕ, Bool, Option, Some, None, Result}
use Rattle.cedar_entity_maps.specs.Plain.{StoreView}
use Rattle.cedar_c_lists.specs.Reasons.{WritesBool}
use Rattle.cedar_c_lists.specs.StatusTexts.{WritesValue}
use Rattle.cedar_c_lists.specs.declared.reason.Reason.{Reason}
use Rattle.cedar_c_stores.specs.Reads.{StateBecomesPartial}
use Rattle.cedar_c.specs.Statuses.{ok, closed}
use Rattle.cedar_c.specs.StoreCalls.{HandleState}
use Rattle.cedar_c.specs.declared.store_handle.Inner.{Inner}

-- Holds for a call that writes a number about the store of a handle. On a closed handle the status is `closed`. After
-- an error nothing is written.
abbrev pub CountsHandle : (StoreView → Result ℕ Reason → Type 0) → Option Inner → ℕ → ℕ → ℕ → Type 0
CountsHandle P None n old new = (n ≡ closed) × (new ≡ old)
CountsHandle P (Some i) n old new = (r : Result ℕ Reason) × WritesValue r n old new × P i.kept.store r

-- Holds for a call that writes a Boolean about the stores of two handles. If one of the handles is closed, the status
-- is `closed`. After an error nothing is written.
abbrev pub ReadsBoolOfBoth : (StoreView → StoreView → Result Bool Reason → Type 0) → Option Inner → Option Inner → ℕ → Bool
    → Bool → Type 0
ReadsBoolOfBoth P None other n old new = (n ≡ closed) × (new ≡ old)
ReadsBoolOfBoth P (Some i) None n old new = (n ≡ closed) × (new ≡ old)
ReadsBoolOfBoth P (Some i) (Some j) n old new =
    (r : Result Bool Reason) × WritesBool r n old new × P i.kept.store j.kept.store r

-- Holds for a call that makes the store of a handle partial. On a closed handle the status is `closed`, and nothing
-- changes.
abbrev pub BecomesPartial : Option Inner → ℕ → Option Inner → Type 0
BecomesPartial None n new = (n ≡ closed) × (new ≡ None)
BecomesPartial (Some i) n new = (n ≡ ok) × ((j : Inner) × (new ≡ Some j) × StateBecomesPartial i.kept j.kept)

-- Holds for a call that writes whether the store of a handle is partial. On a closed handle the status is `closed`, and
-- nothing is written.
abbrev pub ReadsPartial : Option Inner → ℕ → Bool → Bool → Type 0
ReadsPartial None n old new = (n ≡ closed) × (new ≡ old)
ReadsPartial (Some i) n old new = (n ≡ ok) × (new ≡ i.kept.store.partial)
