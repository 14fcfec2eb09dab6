use Rattle.cedar_c_trees.proofs.Planned.{value_planned, expr_planned}
use Rattle.cedar_c_trees.proofs.laws.decoding_matches_plan.Goals as goal

pub returns : goal.returns
returns c = record { value = value_planned; expr = expr_planned }
