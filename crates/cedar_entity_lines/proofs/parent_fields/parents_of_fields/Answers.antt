use Rattle.std.proofs.Common.{arith}
use Rattle.cedar_entity_lines.proofs.Commands.{texts_more, no_texts}
use Rattle.cedar_entity_lines.proofs.parent_fields.parents_of_fields.Goals as goal

pub returns-in-None : goal.returns-in-None
returns-in-None c =
    no_texts c.args.fields.now c.loop-field.field-index _ (omega arith)
    (rw c.in-None.is at c.in_ok-parent_of_text.ensures)

pub loop-field-preserved : goal.loop-field-preserved
loop-field-preserved c =
    rw c.in_ok-push-in-Some.ensures.items
    (texts_more c.loop-field.parents.items c.args.fields.now c.loop-field.field-index _ c.in-Some.parent
    (omega arith) c.loop-field.invariant (rw c.in-Some.is at c.in_ok-parent_of_text.ensures))
