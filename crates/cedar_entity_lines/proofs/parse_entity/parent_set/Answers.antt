use Rattle.std.proofs.Common.{[], ◌∷◌}
use Rattle.cedar_entity_lines.proofs.Commands.{no_first_text, one_field}
use Rattle.cedar_entity_lines.proofs.parse_entity.parent_set.Goals as goal

pub returns-in_default-2 : goal.returns-in_default-2
returns-in_default-2 c =
    rw c.in-Some.ensures.cases.0
    (no_first_text c.in-Some.first.now c.in-Some.rest.now (rw c.in_default-2.is at c.in_ok-parent.ensures))

pub returns-then-is_empty : goal.returns-then-is_empty
returns-then-is_empty c = (
  c.in-Some-2.parent ∷ [],
  rw c.in-Some.ensures.cases.0
      (one_field c.in-Some.first.now c.in-Some.rest.now c.is_empty.result c.is_empty.ensures c.if-is_empty.true
      c.in-Some-2.parent (rw c.in-Some-2.is at c.in_ok-parent.ensures)),
  c.in_ok-set_of_one.ensures,
)
