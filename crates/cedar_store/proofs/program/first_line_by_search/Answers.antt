use Rattle.std.specs.Prelude.{◌∷◌, ◌==◌}
use Rattle.std.proofs.Common.{◌∙◌, sym, ap, arith}
use Rattle.std.specs.List.{slice_split}
use Rattle.cedar_store.specs.laws.FirstLine.{fails, ends_before, only_line}
use Rattle.cedar_store.proofs.program.first_line_by_search.Goals as goal

pub returns-in-None-clause-lines : goal.returns-in-None-clause-lines
returns-in-None-clause-lines c = only_line c.args.input.now (λ k m. fails _ (c.in-None.ensures k (omega arith) m))

pub returns-in-Some-split_first-clause-lines : goal.returns-in-Some-split_first-clause-lines
returns-in-Some-split_first-clause-lines c =
    ends_before c.args.input.now c.in-Some-split_first.rest.now c.in-Some.i c.in-Some-split_first._feed.now
    (sym c.split_at.ensures.back ∙ c.in-Some-split_first.ensures.cases.0)
    (λ k m. fails _ (c.in-Some.ensures.0.before k (omega arith) m)) c.in-Some.ensures.1
    ∙ ap (λ line. line ∷ slice_split (λ b. b == 10) c.in-Some-split_first.rest.now) (sym c.split_at.ensures.front)
