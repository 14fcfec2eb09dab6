use Rattle.std.proofs.Common.{ap, sym, ◌∙◌}
use Rattle.cedar_action.specs.Rules.{among}
use Rattle.cedar_action.specs.Views.{rule_of}
use Rattle.cedar_action.specs.laws.UidCopies.{copied_parts}
use Rattle.cedar_action.proofs.action.ActionConstraintClone.clone.Goals as goal

pub returns-in_ok-clone-in-In : goal.returns-in_ok-clone-in-In
returns-in_ok-clone-in-In c = record {
  cases =
      ap among (copied_parts c.in-In.euids.items c.in_ok-clone-in-In.field-0.items c.in_ok-clone-in-In.ensures.cases.0)
      ∙ ap rule_of (sym c.in-In.is);
}
