use Rattle.std.proofs.Common.{◌≡◌, ◌++◌}
use Rattle.std.specs.Map.{values_of}
use Rattle.cedar_policy_maps.specs.laws.ListedLaws.{IsKeyed}
use Rattle.cedar_policy_maps.proofs.Entries.{shared_id}
use Rattle.cedar_policy_maps.proofs.maps.fill_bodies.Given as goal

abbrev pub invariant-loop-template : goal.invariant-loop-template
invariant-loop-template g l = record {
  keyed : IsKeyed shared_id l.templates.entries;
  values : values_of l.templates.entries ++ l.template-iterator.rest.items ≡ l.fn.bodies.items;
}
