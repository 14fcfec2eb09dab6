use Rattle.std.proofs.Common.{◌∙◌, sym}
use Rattle.cedar_entity_diff.proofs.Comparing.{equal_from}
use Rattle.cedar_entity_diff.proofs.compare.are_equal.Goals as goal

pub returns-then-deep_eq : goal.returns-then-deep_eq
returns-then-deep_eq c h =
    equal_from c.args.one.now c.args.other.now (c.deep_eq.ensures.equal.0 c.if-deep_eq.true)
    (sym c.have_same_parents.ensures ∙ h)
