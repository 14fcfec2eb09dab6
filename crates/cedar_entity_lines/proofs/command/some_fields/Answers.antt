use Rattle.cedar_entity_lines.proofs.Commands.{no_uids}
use Rattle.cedar_entity_lines.proofs.command.some_fields.Goals as goal

pub returns-then-is_empty : goal.returns-then-is_empty
returns-then-is_empty c = no_uids c.args.fields.now c.is_empty.result c.is_empty.ensures c.if-is_empty.true
