use Rattle.std.proofs.Common.{◌∙◌, ap, refl}
use Rattle.cedar_policy_maps.specs.PolicySets.{SetParts, is_body_at}
use Rattle.cedar_policy_maps.specs.Maps.{Maps, maps_of}
use Rattle.cedar_policy_maps.proofs.Entries.{body_known}
use Rattle.std.specs.List.{list_any}
use Rattle.cedar_policy_maps.proofs.policy_maps.PolicyMaps.has_body.Goals as goal

pub returns : goal.returns
returns g c =
    let m : Maps =
    maps_of c.self.inside.templates.entries c.self.inside.links.entries
    c.self.inside.template_to_links_map.entries in
    c.contains_key.ensures ∙ body_known m c.self.inside.templates.entries c.args.id.now c.self.invariant refl
    ∙ ap (λ (b : SetParts). list_any (is_body_at c.args.id.now) b.bodies) c.self.view_is
