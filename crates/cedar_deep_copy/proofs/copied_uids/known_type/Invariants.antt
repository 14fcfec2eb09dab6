use Rattle.cedar_deep_copy.proofs.copied_uids.known_type.Given as goal

abbrev pub invariant-loop-known : goal.invariant-loop-known
invariant-loop-known l = Unit {0}
