use Rattle.cedar_lines.proofs.LineTexts.{readable-if_some}
use Rattle.cedar_lines.proofs.line.tabs_of_some.Goals as goal

pub returns-then-line-le64-clause-readable : goal.returns-then-line-le64-clause-readable
returns-then-line-le64-clause-readable c =
    readable-if_some c.tabs_of_line.result c.args.line.now c.tabs_of_line.ensures.line_bytes

pub returns-then-line-ge8-clause-readable : goal.returns-then-line-ge8-clause-readable
returns-then-line-ge8-clause-readable c =
    readable-if_some c.tabs_of_short_line.result c.args.line.now c.tabs_of_short_line.ensures.line_bytes
