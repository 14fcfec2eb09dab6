use Rattle.std.proofs.Common.{arith, refl, ap, sym, ◌∙◌}
use Rattle.cedar_policy_merge.specs.Fresh.{is_bound_in_either, free_below}
use Rattle.cedar_policy_merge.specs.laws.FreshLaws.{one_on, number_within}
use Rattle.cedar_policy_merge.specs.laws.Trials.{number_of}
use Rattle.cedar_policy_merge.proofs.fresh.next_free.Goals as goal

pub loop-id-init : goal.loop-id-init
loop-id-init g c = record {
  at = c.requires.at;
  within = number_within c.args.here.now c.args.other.now (number_of c.args.trial.now);
  none = refl;
}

pub loop-id-smaller : goal.loop-id-smaller
loop-id-smaller g c =
    let p =
    one_on c.args.here.now c.args.other.now (number_of c.args.trial.now) (number_of c.loop-id.trial) _
    c.loop-id.invariant.within c.loop-id.invariant.none c.in_ok-id.ensures
    (sym c.is_bound_in_either.ensures ∙ c.if-not-is_bound_in_either.false) in
    omega (arith, p.0, c.in_ok-go_on.ensures.number)

pub loop-id-preserved : goal.loop-id-preserved
loop-id-preserved g c =
    let p =
    one_on c.args.here.now c.args.other.now (number_of c.args.trial.now) (number_of c.loop-id.trial) _
    c.loop-id.invariant.within c.loop-id.invariant.none c.in_ok-id.ensures
    (sym c.is_bound_in_either.ensures ∙ c.if-not-is_bound_in_either.false) in
    record {
      at = c.in_ok-go_on.ensures.at;
      within = omega (arith, p.0, c.in_ok-go_on.ensures.number);
      none = ap (free_below (is_bound_in_either c.args.here.now c.args.other.now)) c.in_ok-go_on.ensures.number ∙ p.1;
    }
