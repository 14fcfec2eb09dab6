use Rattle.std.specs.Prelude.{◌≡◌, [], false}
use Rattle.std.proofs.Common.{◌∙◌, ap, refl}
use Rattle.cedar_body.specs.Bodies.{BodyParts}
use Rattle.cedar_policy_maps.specs.PolicySets.{SetParts, is_bound}
use Rattle.cedar_policy_maps.specs.Maps.{Maps, maps_of, set_in}
use Rattle.cedar_policy_maps.specs.laws.MapLaws.{template_kept}
use Rattle.cedar_policy_maps.proofs.Entries.{absent_body, absent_list, read_last}
use Rattle.cedar_policy_maps.proofs.policy_maps.PolicyMaps.insert_template.Goals as goal

pub insert_reserved-requires-clause-absent : goal.insert_reserved-requires-clause-absent
insert_reserved-requires-clause-absent g c =
    let m : Maps =
    maps_of c.self.inside.templates.entries c.self.inside.links.entries
    c.self.inside.template_to_links_map.entries in
    let n : is_bound (set_in m) c.args.template.value.id ≡ false =
    ap (λ (b : SetParts). is_bound b c.args.template.value.id) c.self.view_is ∙ c.requires in
    let k : c.in_ok-id.id ≡ c.args.template.value.id = c.in_ok-id.ensures.ids.0
    ∙ ap (λ (t : BodyParts). t.id) c.deref.ensures in
    rw (k, c.room_for_body.ensures.bodies)
    (absent_body m c.self.inside.templates.entries c.args.template.value.id c.self.invariant refl n)

pub insert_reserved-requires-2-clause-absent : goal.insert_reserved-requires-2-clause-absent
insert_reserved-requires-2-clause-absent g c =
    let m : Maps =
    maps_of c.self.inside.templates.entries c.self.inside.links.entries
    c.self.inside.template_to_links_map.entries in
    let n : is_bound (set_in m) c.args.template.value.id ≡ false =
    ap (λ (b : SetParts). is_bound b c.args.template.value.id) c.self.view_is ∙ c.requires in
    let k : c.in_ok-id.listed ≡ c.args.template.value.id = c.in_ok-id.ensures.ids.1
    ∙ ap (λ (t : BodyParts). t.id) c.deref.ensures in
    rw (k, c.room_for_body.ensures.lists)
    (absent_list m c.self.inside.template_to_links_map.entries c.args.template.value.id c.self.invariant refl n)

pub invariant_of-self-2 : goal.invariant_of-self-2
invariant_of-self-2 g c =
    let m : Maps =
    maps_of c.self.inside.templates.entries c.self.inside.links.entries
    c.self.inside.template_to_links_map.entries in
    let t = c.args.template.value in
    let n : is_bound (set_in m) t.id ≡ false = ap (λ (b : SetParts). is_bound b t.id) c.self.view_is ∙ c.requires in
    let k : c.in_ok-id.id ≡ t.id = c.in_ok-id.ensures.ids.0 ∙ ap (λ (t : BodyParts). t.id) c.deref.ensures in
    let l : c.in_ok-id.listed ≡ t.id = c.in_ok-id.ensures.ids.1 ∙ ap (λ (t : BodyParts). t.id) c.deref.ensures in
    (template_kept m t _ _ c.self.invariant n
    (read_last (λ v. v.value) c.self.inside.templates.entries c.room_for_body.new.templates.entries
    c.insert_reserved.new.map.entries _ t.id c.args.template t c.room_for_body.ensures.bodies
    c.insert_reserved.ensures k refl)
    (read_last (λ v. v.keys) c.self.inside.template_to_links_map.entries c.room_for_body.new.map.entries
    c.insert_reserved-2.new.map.entries _ t.id c.with_hasher-ids.result [] c.room_for_body.ensures.lists
    c.insert_reserved-2.ensures l c.with_hasher-ids.ensures.empty)).0
