use Rattle.std.proofs.Common.{◌∙◌}
use Rattle.cedar_policy_merge.specs.laws.Trials.{id_at}
use Rattle.cedar_policy_merge.proofs.fresh.numbered.Goals as goal

pub returns : goal.returns
returns c =
    c.in_ok-id.ensures
    ∙ id_at c.args.trial.now.tens c.args.trial.now.digit c.as_str.result.now c.requires.digit
    (c.as_str.ensures.value ∙ c.requires.stem)
