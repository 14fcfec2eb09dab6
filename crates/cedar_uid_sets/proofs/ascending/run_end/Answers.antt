use Rattle.std.proofs.Common.{◌≡◌, subst, ◌∙◌, arith, get_or}
use Rattle.cedar_ids.specs.declared.entity.EntityUID.{EntityUID}
use Rattle.cedar_uid_sets.specs.laws.Fronts.{Abbreviate}
use Rattle.cedar_uid_sets.proofs.Adjacent.{here, rises_on}
use Rattle.cedar_uid_sets.proofs.ascending.run_end.Goals as goal

pub loop-at-init : goal.loop-at-init
loop-at-init c =
    let us = c.args.uids.now in
    let at = c.args.start in
    let seen : (d : EntityUID) → c.first.inside.uid.now ≡ get_or us at d =
    λ d. c.first.view_is ∙ c.key-first.ensures ∙ here us at c.index-uids-start.result d c.requires
    c.index-uids-start.is in
    record {
      after = omega arith;
      within = omega (arith, c.requires);
      last = λ k d is. subst (λ j. Abbreviate c.first.inside.kind c.first.inside.front (get_or us j d)) {x = at} {y = k}
          (omega (arith, is)) (subst (Abbreviate c.first.inside.kind c.first.inside.front) (seen d) c.first.invariant);
      rises = λ k d ge lt. absurd (omega (arith, ge, lt));
    }

pub loop-at-preserved : goal.loop-at-preserved
loop-at-preserved c =
    let us = c.args.uids.now in
    let at = c.loop-at.at in
    let i = c.loop-at.invariant in
    let seen : (d : EntityUID) → c.next.inside.uid.now ≡ get_or us at d =
    λ d. c.next.view_is ∙ c.key-next.ensures ∙ here us at c.index-uids-at.result d c.loop-at-test.true
    c.index-uids-at.is in
    let kinds : c.next.inside.kind ≡ c.first.inside.kind = c.if-next-first.false in
    let is_next : (d : EntityUID) → Abbreviate c.first.inside.kind c.next.inside.front (get_or us at d) =
    λ d. subst (Abbreviate c.first.inside.kind c.next.inside.front) (seen d)
    (subst (λ v. Abbreviate v c.next.inside.front c.next.inside.uid.now) kinds c.next.invariant) in
    record {
      after = omega (arith, i.after);
      within = omega (arith, c.loop-at-test.true);
      last = λ k d is. subst (λ j. Abbreviate c.first.inside.kind c.next.inside.front (get_or us j d)) {x = at} {y = k}
          (omega (arith, is)) (is_next d);
      rises = rises_on us c.args.start at c.first.inside.kind c.loop-at.front c.next.inside.front c.if-first-eq0.false
          (omega (arith, c.if-next-front.false)) i.last is_next i.rises;
    }

pub returns-then-next-first-clause-after : goal.returns-then-next-first-clause-after
returns-then-next-first-clause-after c = c.loop-at.invariant.after

pub returns-then-next-first-clause-rises : goal.returns-then-next-first-clause-rises
returns-then-next-first-clause-rises c = c.loop-at.invariant.rises

pub returns-clause-within : goal.returns-clause-within
returns-clause-within c = c.loop-at.invariant.within

pub returns-clause-rises : goal.returns-clause-rises
returns-clause-rises c = c.loop-at.invariant.rises
