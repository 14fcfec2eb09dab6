use Rattle.std.proofs.Common.{sym, ◌∙◌}
use Rattle.cedar_body.specs.laws.BodyLaws.{same_body_decides}
use Rattle.cedar_policy.proofs.policy.is_template.Goals as goal

pub returns : goal.returns
returns c = λ same. (same_body_decides c.args.template.now c.args.other.now).0 (sym c.eq.ensures ∙ same)
