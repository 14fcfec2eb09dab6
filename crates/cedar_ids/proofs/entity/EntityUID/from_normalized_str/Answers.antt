use Rattle.std.proofs.lemmas.Result.{err_from_is_err_and}
use Rattle.std.specs.String.{string_bytes}
use Rattle.cedar_ids.specs.laws.PrintedLaws.{printed_uid_injective}
use Rattle.cedar_ids.proofs.UidSteps.{at_no_halves, at_no_name, at_no_eid, at_eid}
use Rattle.cedar_ids.proofs.entity.EntityUID.from_normalized_str.Goals as goal

pub returns-in_default : goal.returns-in_default
returns-in_default c =
    let h = at_no_halves c.args.text.now c.in_default.ensures in
    record { printed = h.0; exact = h.1; order = h.2; only = λ u v. printed_uid_injective u v c.args.text.now }

pub returns-in_err-src-clause-only : goal.returns-in_err-src-clause-only
returns-in_err-src-clause-only c = λ u v. printed_uid_injective u v c.args.text.now

pub returns-in_err-clone-clause-only : goal.returns-in_err-clone-clause-only
returns-in_err-clone-clause-only c = λ u v. printed_uid_injective u v c.args.text.now

pub returns-in_err-name : goal.returns-in_err-name
returns-in_err-name c =
    let p = err_from_is_err_and c.from_residual-in_err-name.result c.from_residual-in_err-name.ensures.1 in
    rw (p.1, p.2) (
    let h = at_no_name c.args.text.now (
      c.in-Some.name.now,
      c.in-Some.eid.now,
    ) c.in-Some.ensures _ c.in_err-name.ensures in
    record { printed = h.0; exact = h.1; order = h.2; only = λ u v. printed_uid_injective u v c.args.text.now })

pub returns-in_err-eid-clause-only : goal.returns-in_err-eid-clause-only
returns-in_err-eid-clause-only c = λ u v. printed_uid_injective u v c.args.text.now

pub returns-in_default-2 : goal.returns-in_default-2
returns-in_default-2 c =
    let h = at_no_eid c.args.text.now (
      c.in-Some.name.now,
      c.in-Some.eid.now,
    ) c.in_ok-name.name c.in-Some.ensures c.in_ok-name.ensures
    (rw c.in_default-2.is at c.in_ok-eid.ensures) in
    record { printed = h.0; exact = h.1; order = h.2; only = λ u v. printed_uid_injective u v c.args.text.now }

pub returns : goal.returns
returns c =
    let h = at_eid c.args.text.now (c.in-Some.name.now, c.in-Some.eid.now) c.in_ok-name.name
    (string_bytes c.in-Some-2.eid) c.from_components.result c.in-Some.ensures c.in_ok-name.ensures
    (rw c.in-Some-2.is at c.in_ok-eid.ensures) c.from_components.ensures in
    record { printed = h.0; exact = h.1; order = h.2; only = λ u v. printed_uid_injective u v c.args.text.now }
