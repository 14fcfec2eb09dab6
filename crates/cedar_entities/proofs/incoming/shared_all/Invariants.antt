use Rattle.std.specs.Prelude.{◌≡◌, map}
use Rattle.cedar_entities.proofs.incoming.shared_all.Given as goal

abbrev pub invariant-loop-entity : goal.invariant-loop-entity
invariant-loop-entity l = map (λ r. r.value) l.shared.items ≡ l.yielded
