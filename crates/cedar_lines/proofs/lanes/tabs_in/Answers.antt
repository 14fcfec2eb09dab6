use Rattle.std.proofs.Common.{arith}
use Rattle.cedar_lines.proofs.Marks.{MarksTabs-from_chunk}
use Rattle.cedar_lines.proofs.lanes.tabs_in.Goals as goal

pub returns : goal.returns
returns c = MarksTabs-from_chunk c.args.line.now c.args.from c.args.to _ (omega arith) (omega arith) c.tabs_of.ensures
