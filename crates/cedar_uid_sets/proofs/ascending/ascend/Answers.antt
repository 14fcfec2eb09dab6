use Rattle.std.proofs.Common.{refl, subst, arith}
use Rattle.cedar_uid_sets.specs.laws.Places.{RisesIn}
use Rattle.cedar_uid_sets.proofs.Adjacent.{all_rise}
use Rattle.cedar_uid_sets.proofs.ascending.ascend.Goals as goal

pub returns-then-uids-lt2 : goal.returns-then-uids-lt2
returns-then-uids-lt2 c =
    (λ h. all_rise c.args.uids.now (λ k d ge lt. absurd (omega (arith, lt, c.if-uids-lt2.true))), λ s. refl)

pub returns-then-end-uids : goal.returns-then-end-uids
returns-then-end-uids c = (
  λ h. all_rise c.args.uids.now (subst (RisesIn c.args.uids.now 0) c.if-end-uids.true c.run_end-end.ensures.rises),
  λ s. refl,
)
