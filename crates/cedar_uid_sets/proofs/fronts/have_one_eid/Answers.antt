use Rattle.std.specs.Prelude.{◌≡◌, ◌≤◌, length, nat_eq, List, ℕ}
use Rattle.std.proofs.Common.{subst, ◌∙◌}
use Rattle.cedar_ids.specs.UidOf.{uid_parts}
use Rattle.cedar_uid_sets.proofs.Abbreviations.{lengths_tell}
use Rattle.cedar_uid_sets.proofs.fronts.have_one_eid.Goals as goal

-- Eids of at most eight bytes with the same front are equal if their lengths are.
pub returns-then-one-le8 : goal.returns-then-one-le8
returns-then-one-le8 c =
    let one : c.as_ref-one.result.now ≡ (uid_parts c.args.one.now).eid = c.as_ref-one.ensures ∙ c.eid.ensures in
    let other : c.as_ref-other.result.now ≡ (uid_parts c.args.other.now).eid = c.as_ref-other.ensures
    ∙ c.eid-2.ensures in
    (λ i. nat_eq (length (one i)) (length (other i)))
    ∙ lengths_tell 8 (uid_parts c.args.one.now).eid (uid_parts c.args.other.now).eid
    (subst (λ (t : List ℕ). length t ≤ 8) one c.if-one-le8.true) c.requires.one c.requires.other c.requires.same
