use Rattle.std.proofs.Common.{◌∙◌, ap, refl}
use Rattle.cedar_policy_maps.specs.PolicySets.{SetParts, is_body_at}
use Rattle.cedar_policy_maps.specs.Maps.{Maps, maps_of}
use Rattle.cedar_policy_maps.proofs.Entries.{body_lent}
use Rattle.std.specs.List.{find}
use Rattle.cedar_policy_maps.proofs.policy_maps.PolicyMaps.body_at.Goals as goal

pub returns : goal.returns
returns g c =
    let m : Maps =
    maps_of c.self.inside.templates.entries c.self.inside.links.entries
    c.self.inside.template_to_links_map.entries in
    body_lent m c.self.inside.templates.entries c.args.id.now c.get.result c.self.invariant refl c.get.ensures.value
    ∙ ap (λ (b : SetParts). find (is_body_at c.args.id.now) b.bodies) c.self.view_is
