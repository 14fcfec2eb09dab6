use Rattle.std.proofs.Common.{◌≡◌, take}
use Rattle.cedar_ids.proofs.name.Name.components.Given as goal

abbrev pub invariant-loop-id : goal.invariant-loop-id
invariant-loop-id l = l.all.items ≡ take l.id-index l.id-items
