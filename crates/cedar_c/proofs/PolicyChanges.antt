-- The effects of the calls on handles of policy sets, from the effects of the calls on their contents.
use Rattle.std.specs.Prelude.{◌≡◌, ℕ, Bool, Option, Some, Result, Ok}
use Rattle.std.proofs.Common.{refl, subst}
use Rattle.cedar_c_lists.specs.Reasons.{WritesBool, status_of}
use Rattle.cedar_c_lists.specs.StatusTexts.{WritesValue}
use Rattle.cedar_c_lists.specs.declared.reason.Reason.{Reason}
use Rattle.cedar_policy_maps.specs.PolicySets.{SetParts}
use Rattle.cedar_c.specs.PolicyCalls.{Changes, ChangesBy, FillsBy, HandleState, IsFilled}
use Rattle.cedar_c.specs.PolicyReads.{ChangesAndCounts, ChangesAndReports}
use Rattle.cedar_c.specs.declared.policies_handle.Inner.{Inner}
use Rattle.std.specs.Option.{IsSomeAnd}
use Rattle.cedar_c.specs.Statuses.{ok}
use Rattle.cedar_c.proofs.Frame as frame

-- The contents of an open handle.
abbrev kept : Inner → HandleState
kept i = i.kept

-- The contents of an open handle were changed and put back.
pub changed : {old new : Option Inner} {i k j : Inner} {n : ℕ} (P : Result (Unit {0}) Reason → HandleState → HandleState → Type 0)
    (r : Result (Unit {0}) Reason) → Some i ≡ old → k ≡ i → new ≡ Some j → n ≡ status_of r → P r k.kept j.kept
    → Changes P old n new
changed {new = new} {n = n} P r was is put status p =
    subst (λ o. Changes P o n new) was (frame.put_back kept P (λ x. n ≡ status_of x) r is put status p)

-- The same for a change by the policy set of another handle.
pub changed_by : {other old new : Option Inner} {o l i k j : Inner} {n : ℕ}
    (P : SetParts → Result (Unit {0}) Reason → HandleState → HandleState → Type 0) (r : Result (Unit {0}) Reason)
    → Some o ≡ other → l ≡ o → Some i ≡ old → k ≡ i → new ≡ Some j → n ≡ status_of r
    → P l.kept.set r k.kept j.kept → ChangesBy P other old n new
changed_by {old = old} {new = new} {o = o} {k = k} {j = j} {n = n} P r beside same was is put status p =
    subst (λ x. ChangesBy P x old n new) beside
    (subst (λ x. ChangesBy P (Some o) x n new) was
    (changed (P o.kept.set) r refl is put status (subst (λ (x : Inner). P x.kept.set r k.kept j.kept) same p)))

-- The same for a call that also writes a Boolean.
pub changed_and_told : {old new : Option Inner} {i k j : Inner} (P : Result Bool Reason → HandleState → HandleState → Type 0)
    (r : Result Bool Reason) (n : ℕ) (before told : Bool) → Some i ≡ old → k ≡ i → new ≡ Some j
    → WritesBool r n before told → P r k.kept j.kept → ChangesAndReports P old n new before told
changed_and_told {new = new} P r n before told was is put tells p =
    subst (λ o. ChangesAndReports P o n new before told) was
    (frame.put_back kept P (λ x. WritesBool x n before told) r is put tells p)

-- The same for a call that also writes a number.
pub changed_and_counted : {old new : Option Inner} {i k j : Inner} (P : Result ℕ Reason → HandleState → HandleState → Type 0)
    (r : Result ℕ Reason) (n before told : ℕ) → Some i ≡ old → k ≡ i → new ≡ Some j → WritesValue r n before told
    → P r k.kept j.kept → ChangesAndCounts P old n new before told
changed_and_counted {new = new} P r n before told was is put tells p =
    subst (λ o. ChangesAndCounts P o n new before told) was
    (frame.put_back kept P (λ x. WritesValue x n before told) r is put tells p)

-- A property of the result with which a handle is filled is a property of its contents.
pub holds : (P : HandleState → Type 0) (k : HandleState) (old new : Option Inner) (n : ℕ) → P k → FillsBy (Ok k) old n new
    → n ≡ ok → IsSomeAnd new (λ (i : Inner). P i.kept)
holds P k old new n so = frame.holds kept (λ r. IsFilled r old new) P k new n (λ filled. filled) so
