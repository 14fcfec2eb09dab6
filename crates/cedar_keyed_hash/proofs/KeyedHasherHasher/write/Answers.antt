use Rattle.std.specs.Prelude.{◌≡◌, ℕ, suc, ◌+◌, ◌-◌, ◌*◌, ◌/◌, length}
use mathlib.Core.Path.{refl}
use native.Mathlib.Omega.{arith}
use borrow.Author.Tests.{lt-ltb, le-ltb}
use Rattle.cedar_keyed_hash.specs.Keyed.{after_words, keyed}
use Rattle.cedar_keyed_hash.proofs.KeyedHasherHasher.write.Goals as goal

pub returns-then-length-lt8 : goal.returns-then-length-lt8
unfolding keyed
returns-then-length-lt8 c =
    rw (c.mixed-self.ensures, c.short.ensures, lt-ltb (length c.args.bytes.now) 8 c.if-length-lt8.true)

pub loop-at-init : goal.loop-at-init
unfolding after_words
loop-at-init c = (refl, omega (arith, c.if-length-lt8.false), refl)

pub loop-at-preserved : goal.loop-at-preserved
unfolding after_words
loop-at-preserved c =
    let at : ℕ = c.loop-at.at in
    let whole : at ≡ 8 * (at / 8) = omega (arith, c.loop-at.invariant.0) in
    let more : (at + 8) / 8 ≡ suc (at / 8) = omega arith in (
      omega (arith, c.loop-at.invariant.0),
      omega (arith, c.loop-at-test.true),
      rw (more, c.mixed-state.ensures, c.word_at.ensures, ← c.loop-at.invariant.2, ← whole),
    )

pub returns : goal.returns
unfolding keyed
returns c =
    let n : ℕ = length c.args.bytes.now in
    let count : (n - 1) / 8 ≡ c.loop-at.at / 8 =
    omega (arith, c.loop-at.invariant.0, c.loop-at.invariant.1, c.loop-at-test.false) in
    rw (le-ltb n 8 c.if-length-lt8.false, count, ← c.loop-at.invariant.2, c.mixed-self-2.ensures, c.word_at-2.ensures)
