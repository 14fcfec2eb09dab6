use Rattle.cedar_lines.proofs.LineTexts.{text_of_line}
use Rattle.cedar_lines.proofs.line.text_of.Goals as goal

pub from_utf8_unchecked-requires : goal.from_utf8_unchecked-requires
from_utf8_unchecked-requires c = text_of_line _ c.requires
