use Rattle.std.specs.Prelude.{◌≡◌, ◌++◌, ◌∷◌, refl}
use Rattle.std.proofs.Common.{◌∙◌, ap, sym}
use Rattle.std.specs.Map.{values_of}
use Rattle.cedar_policy_maps.proofs.Entries.{shared_id, shared_once, next_absent, next_put}
use Rattle.cedar_policy_maps.proofs.maps.fill_bodies.Goals as goal

pub push_body-requires : goal.push_body-requires
push_body-requires g c =
    let es = c.loop-template.templates.entries in
    let t = c.in-Some.template in
    let e : values_of es ++ t ∷ c.next.new.self.rest.items ≡ c.args.bodies.items =
    ap (λ x. values_of es ++ x) (sym c.in-Some.ensures.steps.0) ∙ c.loop-template.invariant.values in
    next_absent shared_id es t.value.id t c.next.new.self.rest.items c.args.bodies.items
    (shared_once c.args.bodies.items c.requires.once) c.loop-template.invariant.keyed e refl

pub loop-template-preserved : goal.loop-template-preserved
loop-template-preserved g c =
    let es = c.loop-template.templates.entries in
    let t = c.in-Some.template in
    let e : values_of es ++ t ∷ c.next.new.self.rest.items ≡ c.args.bodies.items =
    ap (λ x. values_of es ++ x) (sym c.in-Some.ensures.steps.0) ∙ c.loop-template.invariant.values in
    let r =
    next_put shared_id es c.push_body.new.templates.entries t.value.id t c.next.new.self.rest.items
    c.args.bodies.items c.loop-template.invariant.keyed e refl c.in_ok-push_body.ensures in
    record { keyed = r.0; values = r.1 }
