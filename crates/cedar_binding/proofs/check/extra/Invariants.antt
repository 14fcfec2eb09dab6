use Rattle.std.proofs.Common.{◌≡◌, ◌&&◌, not, take}
use Rattle.std.specs.List.{filter}
use Rattle.cedar_binding.specs.Bindings.{binds, is_listed_id}
use Rattle.cedar_binding.specs.Views.{env_of}
use Rattle.cedar_binding.proofs.check.extra.Given as goal

abbrev pub invariant-loop-id : goal.invariant-loop-id
invariant-loop-id l =
    l.ids.items ≡ filter (λ s. binds (env_of l.values) s && not (is_listed_id l.slots s)) (take l.id-index l.id-items)
