use Rattle.std.proofs.Common.{◌∙◌, ap}
use Rattle.std.specs.List.{find}
use Rattle.cedar_policy_maps.specs.PolicySets.{SetParts, is_policy_at}
use Rattle.cedar_policy_maps.specs.Maps.{Maps, maps_of}
use Rattle.cedar_policy_maps.proofs.Entries.{policy_read}
use Rattle.cedar_policy_maps.proofs.policy_maps.PolicyMaps.policy_near.Goals as goal

pub returns : goal.returns
returns g c =
    let m : Maps =
    maps_of c.self.inside.templates.entries c.self.inside.links.entries
    c.self.inside.template_to_links_map.entries in
    c.get_near.ensures.value ∙ policy_read m c.args.id.now c.self.invariant
    ∙ ap (λ (b : SetParts). find (is_policy_at c.args.id.now) b.policies) c.self.view_is
