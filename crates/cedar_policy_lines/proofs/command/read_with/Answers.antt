use Rattle.std.proofs.Common.{◌∷◌, map}
use Rattle.std.proofs.lemmas.Result.{IfOk-weaker}
use Rattle.cedar_policy_lines.specs.CommandOf.{policy_command_of}
use Rattle.cedar_policy_lines.proofs.Fields.{no_command, reads_as}
use Rattle.cedar_policy_lines.proofs.command.read_with.Goals as goal

pub returns-in_default : goal.returns-in_default
returns-in_default c = no_command c.args.fields.now c.in_default.ensures.cases

pub returns : goal.returns
returns c =
    rw c.in-Some.ensures.cases.0
    (IfOk-weaker c.command_by.result _ _ (reads_as policy_command_of
    (c.in-Some.word.now.now ∷ map (λ f. f.now) c.in-Some.rest.now)) c.command_by.ensures)
