use Rattle.std.specs.Prelude.{◌≡◌, ◌++◌, ◌∷◌, refl}
use Rattle.std.proofs.Common.{◌∙◌, ap, sym}
use Rattle.std.specs.Map.{values_of}
use Rattle.cedar_policy.specs.Policies.{policy_id}
use Rattle.cedar_policy_maps.proofs.Entries.{next_absent, next_put}
use Rattle.cedar_policy_maps.proofs.maps.fill_policies.Goals as goal

pub insert_policy-requires : goal.insert_policy-requires
insert_policy-requires g c =
    let es = c.loop-policy.links.entries in
    let p = c.in-Some.policy in
    let e : values_of es ++ p ∷ c.next.new.self.rest.items ≡ c.args.policies.items =
    ap (λ x. values_of es ++ x) (sym c.in-Some.ensures.steps.0) ∙ c.loop-policy.invariant.values in
    next_absent policy_id es (policy_id p) p c.next.new.self.rest.items c.args.policies.items c.requires.once
    c.loop-policy.invariant.keyed e refl

pub loop-policy-preserved : goal.loop-policy-preserved
loop-policy-preserved g c =
    let es = c.loop-policy.links.entries in
    let p = c.in-Some.policy in
    let e : values_of es ++ p ∷ c.next.new.self.rest.items ≡ c.args.policies.items =
    ap (λ x. values_of es ++ x) (sym c.in-Some.ensures.steps.0) ∙ c.loop-policy.invariant.values in
    let r = next_put policy_id es c.insert_policy.new.links.entries
    (policy_id p) p c.next.new.self.rest.items c.args.policies.items c.loop-policy.invariant.keyed e refl
    c.in_ok-insert_policy.ensures in
    record { keyed = r.0; values = r.1 }
