use Rattle.std.proofs.Common.{◌+◌, ◌≤◌, inl, inr, arith, sym, subst, ◌∙◌, length}
use Rattle.std.proofs.lemmas.Bool.{cases_eq}
use Rattle.std.proofs.lemmas.Result.{err_from_is_err_and}
use Rattle.cedar_graph.specs.laws.Checks.{IsClosedAt}
use Rattle.cedar_graph.specs.laws.Readings.{IsArc}
use Rattle.cedar_graph.specs.laws.Writings.{StartsAt}
use Rattle.cedar_graph.proofs.Members.{MatchFault-weaker}
use Rattle.cedar_graph.proofs.closed.check_numbers.Goals as goal

pub returns-clause-ok : goal.returns-clause-ok
returns-clause-ok g c n h = c.loop-x.invariant.closed n (omega (arith, h, c.loop-x-test.false))

pub mark_targets-place-requires-clause-before : goal.mark_targets-place-requires-clause-before
mark_targets-place-requires-clause-before g c = c.loop-x.invariant.marks_below

pub mark_targets-place-requires-clause-place : goal.mark_targets-place-requires-clause-place
mark_targets-place-requires-clause-place g c = subst (λ v. c.loop-x.place ≤ length v)
    (sym c.deref.ensures.value) c.loop-x.invariant.place

pub loop-x-preserved : goal.loop-x-preserved
loop-x-preserved g c =
    let marked = c.mark_targets-place.ensures in
    let i = c.loop-x.invariant in
    let x = c.loop-x.x in
    let E = IsArc c.args.read.now.reading in
    record {
      marks_len = marked.len ∙ i.marks_len;
      marks_below = marked.below;
      place = subst (λ v. c.mark_targets-place.result ≤ length v) c.deref.ensures.value marked.place;
      starts = subst (λ v. StartsAt v (x + 1) c.mark_targets-place.result) c.deref.ensures.value marked.starts;
      closed = λ n h. elim (cases_eq n x) [
        | inl same ↦ subst (λ m. IsClosedAt E m) (sym same) c.in_ok-check_number.ensures.ok
        | inr other ↦ i.closed n (omega (arith, h, other))
      ];
    }

pub returns-in_err-check_number-clause-err : goal.returns-in_err-check_number-clause-err
returns-in_err-check_number-clause-err g c =
    let p = err_from_is_err_and c.from_residual-in_err-check_number.result
    c.from_residual-in_err-check_number.ensures.1 in
    rw (p.1, p.2) (MatchFault-weaker c.in_err-check_number.field-0.0 _ _ _ _
    (λ a b d l. (c.loop-x.x, l)) (λ _ none. none) c.in_err-check_number.ensures.err)
