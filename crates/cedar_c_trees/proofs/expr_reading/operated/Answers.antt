use Rattle.std.proofs.Common.{arith, refl, [], ◌∷◌}
use Rattle.cedar_c_trees.specs.Items.{not_item, binary_item, is_item}
use Rattle.cedar_c_trees.proofs.expr_reading.operated.Goals as goal

pub returns-in_ok-negation-in-10 : goal.returns-in_ok-negation-in-10
returns-in_ok-negation-in-10 c = record {
  item = not_item;
  below = c.in_ok-operand-in-10.operand ∷ [];
  says = omega arith;
  stack = c.in_ok-operand-in-10.ensures;
  combines = (c.in_ok-operand-in-10.operand, refl, c.in_ok-negation-in-10.ensures);
}

pub returns-in_ok-both-in-11-to-13 : goal.returns-in_ok-both-in-11-to-13
returns-in_ok-both-in-11-to-13 c = record {
  item = binary_item c.in_ok-both-in-11-to-13.ensures.0;
  below = c.in_ok-left-in-11-to-13.left ∷ c.in_ok-left-in-11-to-13.right ∷ [];
  says = c.in_ok-both-in-11-to-13.ensures.1;
  stack = c.in_ok-left-in-11-to-13.ensures;
  combines = (
    c.in_ok-left-in-11-to-13.left,
    c.in_ok-left-in-11-to-13.right,
    refl,
    c.in_ok-both-in-11-to-13.ensures.2,
  );
}

pub returns-in_ok-test-in-14 : goal.returns-in_ok-test-in-14
returns-in_ok-test-in-14 c = record {
  item = is_item c.in_ok-name-in-14.name;
  below = c.in_ok-operand-in-14.operand ∷ [];
  says = (omega arith, c.in_ok-name-in-14.ensures);
  stack = c.in_ok-operand-in-14.ensures;
  combines = (c.in_ok-operand-in-14.operand, refl, c.in_ok-test-in-14.ensures);
}
