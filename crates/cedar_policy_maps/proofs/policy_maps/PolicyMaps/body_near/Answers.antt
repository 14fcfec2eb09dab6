use Rattle.std.proofs.Common.{◌∙◌, ap, refl}
use Rattle.std.specs.List.{find}
use Rattle.std.specs.Option.{option_map}
use Rattle.cedar_policy_maps.specs.PolicySets.{SetParts, is_body_at}
use Rattle.cedar_policy_maps.specs.Maps.{Maps, maps_of}
use Rattle.cedar_policy_maps.proofs.Entries.{body_read}
use Rattle.cedar_policy_maps.proofs.policy_maps.PolicyMaps.body_near.Goals as goal

pub returns-in-None : goal.returns-in-None
returns-in-None g c =
    let m : Maps =
    maps_of c.self.inside.templates.entries c.self.inside.links.entries
    c.self.inside.template_to_links_map.entries in
    ap (option_map (λ t. t.value)) c.in-None.ensures.value
    ∙ body_read m c.self.inside.templates.entries c.args.id.now c.self.invariant refl
    ∙ ap (λ (b : SetParts). find (is_body_at c.args.id.now) b.bodies) c.self.view_is

pub returns-in-Some : goal.returns-in-Some
returns-in-Some g c =
    let m : Maps =
    maps_of c.self.inside.templates.entries c.self.inside.links.entries
    c.self.inside.template_to_links_map.entries in
    ap (option_map (λ t. t.value)) c.in-Some.ensures.value
    ∙ body_read m c.self.inside.templates.entries c.args.id.now c.self.invariant refl
    ∙ ap (λ (b : SetParts). find (is_body_at c.args.id.now) b.bodies) c.self.view_is
