use Rattle.std.proofs.Common.{map, take}
use Rattle.cedar_entity_lines.specs.EntityCommand.{AreTexts}
use Rattle.cedar_entity_lines.proofs.command.uid_fields.Given as goal

abbrev pub invariant-loop-field : goal.invariant-loop-field
invariant-loop-field l = AreTexts l.uids.items (map (λ f. f.now) (take l.field-index l.fields))
