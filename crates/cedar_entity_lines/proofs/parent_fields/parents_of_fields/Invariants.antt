use Rattle.std.proofs.Common.{map, take}
use Rattle.cedar_entity_lines.specs.EntityCommand.{AreTexts}
use Rattle.cedar_entity_lines.proofs.parent_fields.parents_of_fields.Given as goal

abbrev pub invariant-loop-field : goal.invariant-loop-field
invariant-loop-field l = AreTexts l.parents.items (map (λ f. f.now) (take l.field-index l.fields))
