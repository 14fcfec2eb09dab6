use Rattle.std.proofs.Common.{◌∙◌, lit<}
use Rattle.std.proofs.lemmas.Str.Pattern.{strip_suffix_char}
use Rattle.std.specs.Prelude.{None, Some}
use Rattle.cedar_ids.specs.laws.PrintedLaws.{halves_quote}
use Rattle.cedar_ids.specs.laws.Halves.{halves_no_quote}
use Rattle.cedar_ids.proofs.reading.uid_halves.Goals as goal

pub returns-in_err-strip_suffix : goal.returns-in_err-strip_suffix
returns-in_err-strip_suffix c =
    rw c.from_residual.ensures (halves_no_quote c.args.text.now
    (strip_suffix_char 34 c.args.text.now None c.in_err-strip_suffix.ensures.cases (lit< tt)))

pub returns : goal.returns
returns c =
    c.split_uid.ensures
    ∙ halves_quote c.args.text.now c.in_ok-strip_suffix.field-0.now
    (strip_suffix_char 34 c.args.text.now (Some c.in_ok-strip_suffix.field-0) c.in_ok-strip_suffix.ensures.cases
    (lit< tt))
