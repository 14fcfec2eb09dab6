use Rattle.std.specs.Prelude.{◌≡◌, map}
use Rattle.cedar_deep_copy_stores.proofs.store.deep_copy_all.Given as goal

abbrev pub invariant-loop-entity : goal.invariant-loop-entity
invariant-loop-entity g l = l.copies.items ≡ map (λ x. x.now) l.yielded
