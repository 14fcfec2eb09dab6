use Rattle.std.proofs.Common.{◌≡◌, true, false, ap, sym, subst, refl, ◌∙◌, arith, length}
use Rattle.std.specs.Ordering.{is_lt}
use Rattle.std.proofs.lemmas.Bool.{false≢true}
use Rattle.cedar_ids.specs.UidOf.{uid_order}
use Rattle.cedar_uid_sets.specs.laws.Places.{RisesIn}
use Rattle.cedar_uid_sets.proofs.Adjacent.{all_rise, not_there, rises_both}
use Rattle.cedar_uid_sets.proofs.ascending.ascend_from.Goals as goal

pub loop-at-init : goal.loop-at-init
loop-at-init c = record {
  some = c.requires.some;
  within = c.requires.within;
  rises = c.requires.rises;
}

pub overflow_sub-at : goal.overflow_sub-at
overflow_sub-at c = c.loop-at.invariant.some

pub returns-then-not-is_lt : goal.returns-then-not-is_lt
returns-then-not-is_lt c =
    let us = c.args.uids.now in
    let one = c.index-uids-at.result in
    let next = c.index-uids-at-in-loop-at.result in
    let order : uid_order one next ≡ c.order_of.result = (λ i. uid_order (sym c.key.ensures i)
    (sym c.key-in-loop-at.ensures i)) ∙ sym c.order_of.ensures in
    let not_less : is_lt (uid_order one next) ≡ false = ap is_lt order ∙ sym c.is_lt.ensures ∙ c.if-not-is_lt.true in (
      λ h. absurd (false≢true h),
      λ s. absurd (not_there us one next c.loop-at.at c.loop-at.invariant.some c.loop-at-test.true c.index-uids-at.is
          c.index-uids-at-in-loop-at.is not_less s),
    )

pub loop-at-preserved : goal.loop-at-preserved
loop-at-preserved c =
    let us = c.args.uids.now in
    let one = c.index-uids-at.result in
    let next = c.index-uids-at-in-loop-at.result in
    let run = c.run_end-at.ensures in
    let order : uid_order one next ≡ c.order_of.result = (λ i. uid_order (sym c.key.ensures i)
    (sym c.key-in-loop-at.ensures i)) ∙ sym c.order_of.ensures in
    let less : is_lt (uid_order one next) ≡ true = ap is_lt order ∙ sym c.is_lt.ensures ∙ c.if-not-is_lt.false in
    record {
      some = omega (arith, run.after);
      within = run.within;
      rises = rises_both us one next c.loop-at.at c.run_end-at.result c.loop-at.invariant.some c.loop-at-test.true
          c.index-uids-at.is c.index-uids-at-in-loop-at.is less c.loop-at.invariant.rises run.rises;
    }

pub returns : goal.returns
returns c =
    let i = c.loop-at.invariant in
    let whole : c.loop-at.at ≡ length c.args.uids.now = omega (arith, i.within, c.loop-at-test.false) in
    (λ h. all_rise c.args.uids.now (subst (RisesIn c.args.uids.now 0) whole i.rises), λ s. refl)
