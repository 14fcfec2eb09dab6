use Rattle.std.specs.Prelude.{◌≡◌, ◌++◌, ◌∷◌, []}
use Rattle.std.proofs.Common.{◌∙◌, sym, subst, refl}
use Rattle.cedar_policy.specs.Policies.{policy_id}
use Rattle.cedar_policy_maps.specs.Maps.{Maps, maps_of, set_in}
use Rattle.cedar_policy_maps.specs.laws.SetLaws.{both_free}
use Rattle.cedar_policy_maps.specs.Insertions.{CanInsertWithBody}
use Rattle.cedar_policy_maps.specs.laws.MapLaws.{static_kept}
use Rattle.cedar_policy_maps.proofs.Entries.{absent_body, absent_policy, read_last}
use Rattle.cedar_policy_maps.proofs.policy_maps.PolicyMaps.insert_static.Goals as goal

pub insert_reserved-requires-clause-absent : goal.insert_reserved-requires-clause-absent
insert_reserved-requires-clause-absent g c =
    let m : Maps =
    maps_of c.self.inside.templates.entries c.self.inside.links.entries
    c.self.inside.template_to_links_map.entries in
    let p = c.args.policy in
    let j : CanInsertWithBody (set_in m) p = subst (λ b. CanInsertWithBody b p) (sym c.self.view_is) c.requires.joins in
    let k : c.in_ok-joining.joining.body_id ≡ p.template.id = c.in_ok-joining.ensures.body_id in
    rw (k, c.reserve_with_body.ensures.bodies)
    (absent_body m c.self.inside.templates.entries p.template.id c.self.invariant refl j.0)

pub insert_reserved-requires-2-clause-absent : goal.insert_reserved-requires-2-clause-absent
insert_reserved-requires-2-clause-absent g c =
    let m : Maps =
    maps_of c.self.inside.templates.entries c.self.inside.links.entries
    c.self.inside.template_to_links_map.entries in
    let p = c.args.policy in
    let j : CanInsertWithBody (set_in m) p = subst (λ b. CanInsertWithBody b p) (sym c.self.view_is) c.requires.joins in
    let k : c.in_ok-joining.joining.policy_id ≡ policy_id p = c.in_ok-joining.ensures.policy_id in
    rw (k, c.reserve_with_body.ensures.policies)
    (absent_policy m (policy_id p) c.self.invariant (both_free p.link (set_in m) p refl j.0 j.1))

pub invariant_of-self-2 : goal.invariant_of-self-2
invariant_of-self-2 g c =
    let m : Maps =
    maps_of c.self.inside.templates.entries c.self.inside.links.entries
    c.self.inside.template_to_links_map.entries in
    let p = c.args.policy in
    let j : CanInsertWithBody (set_in m) p = subst (λ b. CanInsertWithBody b p) (sym c.self.view_is) c.requires.joins in
    let k : c.in_ok-joining.joining.body_id ≡ p.template.id = c.in_ok-joining.ensures.body_id in
    let n : c.in_ok-joining.joining.policy_id ≡ policy_id p = c.in_ok-joining.ensures.policy_id in
    (static_kept m p _ _ c.self.invariant j c.requires.no_link
    (read_last (λ v. v.value) c.self.inside.templates.entries c.reserve_with_body.new.templates.entries
    c.insert_reserved.new.map.entries _ p.template.id c.in_ok-joining.joining.body p.template
    c.reserve_with_body.ensures.bodies c.insert_reserved.ensures k c.in_ok-joining.ensures.body)
    (c.insert_reserved-2.ensures ∙ (λ i. c.reserve_with_body.ensures.policies i ++ (n i, p) ∷ []))).0
