use Rattle.std.proofs.Common.{◌∙◌, ap}
use Rattle.cedar_policy_maps.specs.PolicySets.{SetParts, is_policy_at}
use Rattle.cedar_policy_maps.specs.Maps.{Maps, maps_of}
use Rattle.cedar_policy_maps.proofs.Entries.{policy_known}
use Rattle.std.specs.List.{list_any}
use Rattle.cedar_policy_maps.proofs.policy_maps.PolicyMaps.has_policy.Goals as goal

pub returns : goal.returns
returns g c =
    let m : Maps =
    maps_of c.self.inside.templates.entries c.self.inside.links.entries
    c.self.inside.template_to_links_map.entries in
    c.contains_key.ensures ∙ policy_known m c.args.id.now c.self.invariant
    ∙ ap (λ (b : SetParts). list_any (is_policy_at c.args.id.now) b.policies) c.self.view_is
