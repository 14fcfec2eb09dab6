use Rattle.std.proofs.Common.{◌≡◌}
use Rattle.std.specs.List.{list_all}
use Rattle.cedar_entity_diff.specs.laws.Listed.{agree_on}
use Rattle.cedar_entity_diff.proofs.compare.agree_on_all.Given as goal

abbrev pub invariant-loop-parent : goal.invariant-loop-parent
invariant-loop-parent l =
    list_all (agree_on l.one l.other) l.parent-iterator ≡ list_all (agree_on l.one l.other) l.fn.parents
