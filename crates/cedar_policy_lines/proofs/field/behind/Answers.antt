use Rattle.cedar_policy_lines.proofs.Fields.{behind_is}
use Rattle.cedar_policy_lines.proofs.field.behind.Goals as goal

pub returns : goal.returns
returns c = behind_is c.args.mark.now c.args.field.now c.strip_prefix.result c.strip_prefix.ensures.cases
