use Rattle.std.proofs.Common.{◌≡◌, take}
use Rattle.cedar_binding.specs.Bindings.{unbound}
use Rattle.cedar_binding.specs.Views.{env_of}
use Rattle.cedar_binding.proofs.check.unbound.Given as goal

abbrev pub invariant-loop-slot : goal.invariant-loop-slot
invariant-loop-slot l = l.ids.items ≡ unbound (take l.slot-index l.slots) (env_of l.values)
