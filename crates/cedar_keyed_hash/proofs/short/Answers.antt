use Rattle.std.specs.Prelude.{length}
use borrow.Author.Tests.{le-leb, lt-leb, lt-ltb, le-ltb}
use Rattle.cedar_keyed_hash.specs.Keyed.{short}
use Rattle.cedar_keyed_hash.proofs.short.Goals as goal

pub returns-then-length-ge4 : goal.returns-then-length-ge4
unfolding short
returns-then-length-ge4 c =
    rw (c.half_at.ensures, c.half_at-then-length-ge4.ensures, le-leb 4 (length c.args.bytes.now) c.if-length-ge4.true)

pub returns-then-length-gt0 : goal.returns-then-length-gt0
unfolding short
returns-then-length-gt0 c =
    rw (
      lt-leb 4 (length c.args.bytes.now) c.if-length-ge4.false,
      lt-ltb 0 (length c.args.bytes.now) c.if-length-gt0.true,
    )

pub returns-else-length-gt0 : goal.returns-else-length-gt0
unfolding short
returns-else-length-gt0 c =
    rw (
      lt-leb 4 (length c.args.bytes.now) c.if-length-ge4.false,
      le-ltb 0 (length c.args.bytes.now) c.if-length-gt0.false,
    )
