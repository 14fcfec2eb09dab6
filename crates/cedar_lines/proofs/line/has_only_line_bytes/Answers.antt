use Rattle.std.specs.Prelude.{◌&&◌}
use Rattle.std.specs.List.{list_all}
use Rattle.std.proofs.Common.{◌∙◌, ap, refl, sym}
use Rattle.std.proofs.lemmas.List.{take_all}
use Rattle.std.proofs.lemmas.List.Folds.{list_all_more}
use Rattle.cedar_lines.specs.Lines.{is_line_byte}
use Rattle.cedar_lines.proofs.LineTexts.{list_all-from_line_bytes}
use Rattle.cedar_lines.proofs.line.has_only_line_bytes.Goals as goal

pub loop-b-init : goal.loop-b-init
loop-b-init c = refl

pub loop-b-preserved : goal.loop-b-preserved
loop-b-preserved c =
    (λ i. c.loop-b.invariant i && c.is_line_byte-is_readable.ensures i)
    ∙ sym (list_all_more is_line_byte c.args.line.now c.loop-b.b-index 0 c.loop-b-test.true)

pub returns : goal.returns
returns c =
    c.loop-b.invariant ∙ ap (list_all is_line_byte) (take_all c.loop-b.b-index c.args.line.now c.loop-b-test.false)

pub returns-then-has_line_bytes : goal.returns-then-has_line_bytes
returns-then-has_line_bytes c = sym (list_all-from_line_bytes c.args.line.now (c.has_line_bytes.ensures c.if-has_line_bytes.true))
