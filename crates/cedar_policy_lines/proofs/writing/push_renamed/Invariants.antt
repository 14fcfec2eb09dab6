use Rattle.std.specs.Prelude.{◌≡◌, ◌++◌}
use Rattle.std.specs.List.{flat_map}
use Rattle.cedar_policy_lines.specs.PolicyOutput.{renamed_fields}
use Rattle.cedar_policy_lines.proofs.writing.push_renamed.Given as goal

abbrev pub invariant-loop-old : goal.invariant-loop-old
invariant-loop-old g l = l.out.items ++ flat_map renamed_fields l.old-iterator
    ≡ l.initial.out.items ++ flat_map renamed_fields l.renaming.entries
