use Rattle.std.specs.Prelude.{◌≡◌, ◌-◌, ◌/◌, ◌%◌, ◌<◌}
use Rattle.cedar_keyed_hash.specs.Keyed.{after_words}
use Rattle.cedar_keyed_hash.proofs.KeyedHasherHasher.write.Given as goal

-- The state contains the words before `at`.
abbrev pub invariant-loop-at : goal.invariant-loop-at
invariant-loop-at l = (l.at % 8 ≡ 0) × (l.at < l.length)
    × (l.state ≡ after_words l.bytes l.self.key l.initial.state (l.at / 8))

abbrev pub decreases-loop-at : goal.decreases-loop-at
decreases-loop-at l = l.length - l.at
