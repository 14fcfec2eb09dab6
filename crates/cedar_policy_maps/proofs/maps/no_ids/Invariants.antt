use Rattle.std.proofs.Common.{◌≡◌, [], take}
use Rattle.std.specs.Map.{values_of}
use Rattle.cedar_policy_maps.specs.Maps.{lists_of, ids_by_body, templates_in}
use Rattle.cedar_policy_maps.specs.Views.{bodies_of}
use Rattle.cedar_policy_maps.proofs.maps.no_ids.Given as goal

abbrev pub invariant-loop-template : goal.invariant-loop-template
invariant-loop-template g l = lists_of l.map.entries
    ≡ ids_by_body (templates_in (values_of l.known.entries) (bodies_of (take l.template-index l.bodies))) []
