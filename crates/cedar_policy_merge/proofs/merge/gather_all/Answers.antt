use Rattle.std.proofs.Common.{sym, subst}
use Rattle.cedar_policy_merge.specs.laws.TemplatesAlike.{AllStandUnless, bodies_walked}
use Rattle.cedar_policy_merge.proofs.merge.gather_all.Goals as goal

pub gather_policies-requires : goal.gather_policies-requires
gather_policies-requires g c =
    let h = c.args.here.now in
    let o = c.args.other.now in
    subst (AllStandUnless h o) (sym c.in_ok-gather_bodies.ensures.ids) (bodies_walked h o c.args.ids.now.keys
    c.is_empty.ensures.policy_set c.is_empty-2.ensures.policy_set)
