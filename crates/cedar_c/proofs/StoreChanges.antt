-- The effects of the calls on handles of stores, from the effects of the calls on their contents.
use Rattle.std.specs.Prelude.{◌≡◌, ℕ, Bool, Option, Some, Result, Ok}
use Rattle.std.proofs.Common.{refl, subst}
use Rattle.cedar_c_lists.specs.Reasons.{WritesBool, status_of}
use Rattle.cedar_c_lists.specs.StatusTexts.{WritesValue}
use Rattle.cedar_c_lists.specs.declared.reason.Reason.{Reason}
use Rattle.cedar_c.specs.StoreCalls.{Changes, FillsBy, HandleState, IsFilled}
use Rattle.cedar_c.specs.StoreNumbers.{WritesNumber}
use Rattle.cedar_c.specs.StoreReads.{BecomesPartial}
use Rattle.cedar_c.specs.StoreValues.{GetsFrom}
use Rattle.cedar_c_stores.specs.Reads.{StateBecomesPartial}
use Rattle.cedar_c.specs.declared.store_handle.Inner.{Inner}
use Rattle.std.specs.Option.{IsSomeAnd}
use Rattle.cedar_c.specs.Statuses.{ok}
use Rattle.cedar_c.proofs.Frame as frame

-- The contents of an open handle.
abbrev kept : Inner → HandleState
kept i = i.kept

-- The contents of an open handle were changed and put back.
pub changed : {old new : Option Inner} {i k j : Inner} {n : ℕ} (P : Result (Unit {0}) Reason → HandleState → HandleState → Type 0)
    (r : Result (Unit {0}) Reason) → Some i ≡ old → k ≡ i → new ≡ Some j → n ≡ status_of r → P r k.kept j.kept
    → Changes P old n new
changed {new = new} {n = n} P r was is put status p =
    subst (λ o. Changes P o n new) was (frame.put_back kept P (λ x. n ≡ status_of x) r is put status p)

-- The contents of an open handle were changed and put back, and a Boolean was written.
pub changed_telling : {old new : Option Inner} {i k j : Inner} (P : Result Bool Reason → HandleState → HandleState → Type 0)
    (r : Result Bool Reason) (n : ℕ) (was has : Bool) → Some i ≡ old → k ≡ i → new ≡ Some j → WritesBool r n was has
    → P r k.kept j.kept → GetsFrom P old n new was has
changed_telling {new = new} P r n was has held is put tells p =
    subst (λ o. GetsFrom P o n new was has) held (frame.put_back kept P (λ x. WritesBool x n was has) r is put tells p)

-- The contents of an open handle were changed and put back, and a number was written.
pub changed_giving : {old new : Option Inner} {i k j : Inner} (P : Result ℕ Reason → HandleState → HandleState → Type 0)
    (r : Result ℕ Reason) (n was told : ℕ) → Some i ≡ old → k ≡ i → new ≡ Some j → WritesValue r n was told
    → P r k.kept j.kept → WritesNumber P old n new was told
changed_giving {new = new} P r n was told held is put tells p =
    subst (λ o. WritesNumber P o n new was told) held (frame.put_back kept P (λ x. WritesValue x n was told) r is put tells p)

-- The store of an open handle was made partial and put back.
pub became_partial : {old new : Option Inner} {i k j : Inner} → Some i ≡ old → k ≡ i → new ≡ Some j
    → StateBecomesPartial k.kept j.kept → BecomesPartial old 0 new
became_partial {new = new} {j = j} was is put p =
    subst (λ o. BecomesPartial o 0 new) was (refl, (j, put, subst (λ (x : Inner). StateBecomesPartial x.kept j.kept) is p))

-- A property of the result with which a handle is filled is a property of its contents.
pub holds : (P : HandleState → Type 0) (k : HandleState) (old new : Option Inner) (n : ℕ) → P k → FillsBy (Ok k) old n new
    → n ≡ ok → IsSomeAnd new (λ (i : Inner). P i.kept)
holds P k old new n so = frame.holds kept (λ r. IsFilled r old new) P k new n (λ filled. filled) so
