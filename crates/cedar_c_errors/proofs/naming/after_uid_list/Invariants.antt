use Rattle.std.proofs.Common.{◌≡◌, ◌≤◌, length}
use Rattle.cedar_c_errors.specs.laws.Scans.{after_uids}
use Rattle.cedar_c_errors.proofs.naming.after_uid_list.Given as goal

abbrev pub invariant-loop : goal.invariant-loop
invariant-loop l = (l.rest ≡ after_uids l.counter l.text) × (length l.rest ≤ length l.text)
