use Rattle.std.proofs.Common.{◌≡◌, ◌++◌, ◌∷◌, [], ◌∙◌, ap, sym, lit<, Some, None, List, ℕ}
use Rattle.std.proofs.lemmas.Str.Pattern.{split_parts}
use Rattle.std.specs.Prelude.{slice_index}
use Rattle.cedar_ids.specs.laws.Halves.{no_mark, mark_before_quote, split_found, ends_with_mark}
use Rattle.cedar_ids.proofs.reading.split_uid.Goals as goal

pub returns-in_err-front : goal.returns-in_err-front
returns-in_err-front c =
    rw c.from_residual.ensures (no_mark c.args.text.now
    (split_parts 34 c.args.text.now None c.in_err-front.ensures.cases (lit< tt)))

pub returns-in-Some : goal.returns-in-Some
returns-in-Some c =
    let parts = split_parts 34 c.args.text.now (Some (c.in_ok-front.front, c.in_ok-front.back))
    c.in_ok-front.ensures.cases (lit< tt) in
    ends_with_mark c.args.text.now c.in_ok-front.front.now c.in_ok-front.back.now c.in-Some.name.now parts.0 parts.1
    c.in-Some.ensures.cases

pub returns-in-None : goal.returns-in-None
returns-in-None c = split_found _ _ _ (lit< tt) c.split_once-in-None.ensures.cases
