use Rattle.std.specs.Prelude.{◌≡◌, map}
use Rattle.cedar_deep_copy_stores.proofs.parts.deep_copy_uids.Given as goal

abbrev pub invariant-loop-uid : goal.invariant-loop-uid
invariant-loop-uid g l = l.copies.items ≡ map (λ x. x.now) l.yielded
