use Rattle.std.proofs.Common.{◌∙◌, ap}
use Rattle.cedar_policy_maps.specs.PolicySets.{SetParts}
use Rattle.cedar_policy_maps.specs.Views.{bodies_of}
use Rattle.cedar_policy_maps.proofs.Entries.{shared_values}
use Rattle.cedar_policy_maps.proofs.policy_maps.PolicyMaps.shared_bodies.Goals as goal

pub returns : goal.returns
returns g c =
    c.of.ensures ∙ ap bodies_of c.values.ensures.rest ∙ shared_values c.self.inside.templates.entries
    ∙ ap (λ (b : SetParts). b.bodies) c.self.view_is
