use Rattle.std.specs.Prelude.{◌≡◌, map}
use Rattle.cedar_entities.proofs.incoming.with_uids.Given as goal

abbrev pub invariant-loop-entity : goal.invariant-loop-entity
invariant-loop-entity l = l.incoming.items ≡ map (λ r. r.value) l.yielded
