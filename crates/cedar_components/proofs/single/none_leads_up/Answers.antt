use Rattle.std.proofs.Common.{◌≤◌, inl, inr, sym, subst, arith, get_or}
use Rattle.std.proofs.lemmas.Bool.{cases_eq}
use Rattle.cedar_components.proofs.single.none_leads_up.Goals as goal

pub loop-k-init : goal.loop-k-init
loop-k-init c = λ j h. absurd (omega (arith, h))

pub loop-k-preserved : goal.loop-k-preserved
loop-k-preserved c = λ j h. elim (cases_eq j c.loop-k.k) [
  | inl same ↦
      let from = c.args.from.now in
      let to = c.args.to.now in
      let component = c.args.component.now in
      subst (λ v. get_or component (get_or to v 0) 0 ≤ get_or component (get_or from v 0) 0) (sym same)
      c.if-component-to.false
  | inr apart ↦ c.loop-k.invariant j (omega (arith, h, apart))
]

pub returns : goal.returns
returns c = λ t k h. c.loop-k.invariant k (omega (arith, h, c.loop-k-test.false))
