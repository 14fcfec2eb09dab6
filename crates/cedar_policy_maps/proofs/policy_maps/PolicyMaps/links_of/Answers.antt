use Rattle.std.proofs.Common.{◌∙◌, ap, refl}
use Rattle.cedar_policy_maps.specs.PolicySets.{SetParts, is_body_at}
use Rattle.cedar_policy_maps.specs.Maps.{Maps, maps_of, templates_in}
use Rattle.cedar_policy_maps.proofs.Entries.{ids_lent}
use Rattle.std.specs.List.{find}
use Rattle.std.specs.Option.{option_map}
use Rattle.cedar_policy_maps.specs.Lists.{ids_in}
use Rattle.cedar_policy_maps.proofs.policy_maps.PolicyMaps.links_of.Goals as goal

pub returns : goal.returns
returns g c =
    let m : Maps =
    maps_of c.self.inside.templates.entries c.self.inside.links.entries
    c.self.inside.template_to_links_map.entries in
    ids_lent m c.self.inside.template_to_links_map.entries c.args.id.now c.get.result c.self.invariant refl
    c.get.ensures.value
    ∙ ap (λ (b : SetParts). option_map (λ t. ids_in t.id b.policies)
    (find (is_body_at c.args.id.now) (templates_in b.policies b.bodies))) c.self.view_is
