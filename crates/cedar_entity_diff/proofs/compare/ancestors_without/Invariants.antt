use Rattle.std.proofs.Common.{◌≡◌, filter, map}
use Rattle.cedar_entity_diff.specs.laws.Listed.{is_no_ancestor}
use Rattle.cedar_entity_diff.proofs.compare.ancestors_without.Given as goal

abbrev pub invariant-loop-uid : goal.invariant-loop-uid
invariant-loop-uid l = l.uids.items ≡ filter (is_no_ancestor l.other) (map (λ x. x.now) l.yielded)
