use Rattle.std.specs.Prelude.{◌≡◌, ◌++◌, ◌∷◌, []}
use Rattle.std.proofs.Common.{◌∙◌, sym, subst, refl}
use Rattle.cedar_policy.specs.Policies.{policy_id}
use Rattle.cedar_policy_maps.specs.Maps.{Maps, maps_of, set_in}
use Rattle.cedar_policy_maps.specs.laws.SetLaws.{both_free}
use Rattle.cedar_policy_maps.specs.Insertions.{CanInsertWithBody}
use Rattle.cedar_policy_maps.specs.laws.MapLaws.{link_kept}
use Rattle.cedar_policy_maps.proofs.Entries.{absent_body, absent_policy, absent_list, read_last}
use Rattle.cedar_policy_maps.proofs.policy_maps.PolicyMaps.insert_link_with_body.Goals as goal

pub insert_reserved-requires-clause-absent : goal.insert_reserved-requires-clause-absent
insert_reserved-requires-clause-absent g c =
    let m : Maps =
    maps_of c.self.inside.templates.entries c.self.inside.links.entries
    c.self.inside.template_to_links_map.entries in
    let p = c.args.policy in
    let j : CanInsertWithBody (set_in m) p = subst (λ b. CanInsertWithBody b p) (sym c.self.view_is) c.requires.joins in
    let k : c.in_ok-both.both.body_id ≡ p.template.id = c.in_ok-both.ensures.body_id in
    rw (k, c.reserve_with_body.ensures.bodies)
    (absent_body m c.self.inside.templates.entries p.template.id c.self.invariant refl j.0)

pub insert_reserved-requires-2-clause-absent : goal.insert_reserved-requires-2-clause-absent
insert_reserved-requires-2-clause-absent g c =
    let m : Maps =
    maps_of c.self.inside.templates.entries c.self.inside.links.entries
    c.self.inside.template_to_links_map.entries in
    let p = c.args.policy in
    let j : CanInsertWithBody (set_in m) p = subst (λ b. CanInsertWithBody b p) (sym c.self.view_is) c.requires.joins in
    let k : c.in_ok-both.both.policy_id ≡ policy_id p = c.in_ok-both.ensures.policy_id in
    rw (k, c.reserve_with_body.ensures.policies)
    (absent_policy m (policy_id p) c.self.invariant (both_free p.link (set_in m) p refl j.0 j.1))

pub insert_reserved-requires-3-clause-absent : goal.insert_reserved-requires-3-clause-absent
insert_reserved-requires-3-clause-absent g c =
    let m : Maps =
    maps_of c.self.inside.templates.entries c.self.inside.links.entries
    c.self.inside.template_to_links_map.entries in
    let p = c.args.policy in
    let j : CanInsertWithBody (set_in m) p = subst (λ b. CanInsertWithBody b p) (sym c.self.view_is) c.requires.joins in
    let k : c.in_ok-under.under ≡ p.template.id = c.in_ok-under.ensures.list.0 in
    rw (k, c.room_for_list.ensures.lists)
    (absent_list m c.self.inside.template_to_links_map.entries p.template.id c.self.invariant refl j.0)

pub invariant_of-self-2 : goal.invariant_of-self-2
invariant_of-self-2 g c =
    let m : Maps =
    maps_of c.self.inside.templates.entries c.self.inside.links.entries
    c.self.inside.template_to_links_map.entries in
    let p = c.args.policy in
    let j : CanInsertWithBody (set_in m) p = subst (λ b. CanInsertWithBody b p) (sym c.self.view_is) c.requires.joins in
    let k : c.in_ok-both.both.body_id ≡ p.template.id = c.in_ok-both.ensures.body_id in
    let l : c.in_ok-under.under ≡ p.template.id = c.in_ok-under.ensures.list.0 in
    let n : c.in_ok-both.both.policy_id ≡ policy_id p = c.in_ok-both.ensures.policy_id in
    let one : c.in_ok-under.ids.keys ≡ policy_id p ∷ [] = c.in_ok-under.ensures.list.1 in
    (link_kept m p _ _ _ c.self.invariant j c.requires.link
    (read_last (λ v. v.value) c.self.inside.templates.entries c.reserve_with_body.new.templates.entries
    c.insert_reserved.new.map.entries _ p.template.id c.in_ok-both.both.body p.template c.reserve_with_body.ensures.bodies
    c.insert_reserved.ensures k c.in_ok-both.ensures.body)
    (c.insert_reserved-2.ensures ∙ (λ i. c.reserve_with_body.ensures.policies i ++ (n i, p) ∷ []))
    (read_last (λ v. v.keys) c.self.inside.template_to_links_map.entries c.room_for_list.new.map.entries
    c.insert_reserved-3.new.map.entries _ p.template.id c.in_ok-under.ids
    (policy_id p ∷ []) c.room_for_list.ensures.lists c.insert_reserved-3.ensures l one)).0
