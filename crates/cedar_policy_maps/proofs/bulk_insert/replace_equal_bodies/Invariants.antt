use Rattle.std.proofs.Common.{◌≡◌}
use Rattle.cedar_policy_maps.specs.Maps.{shared_of}
use Rattle.cedar_policy_maps.proofs.bulk_insert.replace_equal_bodies.Given as goal

abbrev pub invariant-loop-template : goal.invariant-loop-template
invariant-loop-template g l = shared_of l.templates.entries ≡ shared_of l.initial.templates.entries
