use Rattle.std.specs.Prelude.{◌≡◌, ◌++◌, ◌∷◌, []}
use Rattle.std.proofs.Common.{◌∙◌, sym, subst, refl}
use Rattle.cedar_policy.specs.Policies.{policy_id}
use Rattle.cedar_policy_maps.specs.Maps.{Maps, maps_of, set_in, lists_of}
use Rattle.cedar_policy_maps.specs.laws.SetLaws.{free_link}
use Rattle.cedar_policy_maps.specs.Insertions.{CanInsert}
use Rattle.cedar_policy_maps.specs.laws.MapLaws.{policy_kept}
use Rattle.cedar_policy_maps.proofs.Entries.{absent_policy, id_unlisted}
use Rattle.cedar_policy_maps.proofs.policy_maps.PolicyMaps.insert_policy.Goals as goal

pub insert_reserved-requires-clause-absent : goal.insert_reserved-requires-clause-absent
insert_reserved-requires-clause-absent g c =
    let m : Maps =
    maps_of c.self.inside.templates.entries c.self.inside.links.entries
    c.self.inside.template_to_links_map.entries in
    let p = c.args.policy in
    let j : CanInsert (set_in m) p = subst (λ b. CanInsert b p) (sym c.self.view_is) c.requires in
    let k : c.in_ok-id.id ≡ policy_id p = c.in_ok-id.ensures.id in
    rw (k, c.list_policy.ensures.policies)
    (absent_policy m (policy_id p) c.self.invariant (free_link p.link (set_in m) p refl j))

pub invariant_of-self-2 : goal.invariant_of-self-2
invariant_of-self-2 g c =
    let m : Maps =
    maps_of c.self.inside.templates.entries c.self.inside.links.entries
    c.self.inside.template_to_links_map.entries in
    let p = c.args.policy in
    let j : CanInsert (set_in m) p = subst (λ b. CanInsert b p) (sym c.self.view_is) c.requires in
    let k : c.in_ok-id.id ≡ policy_id p = c.in_ok-id.ensures.id in
    (policy_kept m p c.insert_reserved.new.map.entries (lists_of c.list_policy.new.map.entries) c.self.invariant j
    (c.insert_reserved.ensures ∙ (λ i. c.list_policy.ensures.policies i ++ (k i, p) ∷ []))
    c.in_ok-id.ensures.ok).0

pub list_policy-requires : goal.list_policy-requires
list_policy-requires g c =
    let m : Maps =
    maps_of c.self.inside.templates.entries c.self.inside.links.entries
    c.self.inside.template_to_links_map.entries in
    let p = c.args.policy in
    let j : CanInsert (set_in m) p = subst (λ b. CanInsert b p) (sym c.self.view_is) c.requires in
    id_unlisted m c.self.inside.template_to_links_map.entries p.template.id (policy_id p) c.self.invariant refl
    (free_link p.link (set_in m) p refl j)
