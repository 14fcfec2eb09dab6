use Rattle.std.specs.Prelude.{◌≡◌, take}
use Rattle.std.specs.List.{list_all}
use Rattle.cedar_lines.specs.Lines.{is_line_byte}
use Rattle.cedar_lines.proofs.line.has_only_line_bytes.Given as goal

abbrev pub invariant-loop-b : goal.invariant-loop-b
invariant-loop-b l = l.is_readable ≡ list_all is_line_byte (take l.b-index l.line)
