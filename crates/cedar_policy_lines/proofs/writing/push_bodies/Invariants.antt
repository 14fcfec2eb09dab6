use Rattle.std.specs.Prelude.{◌≡◌, ◌++◌, map}
use Rattle.std.specs.List.{flat_map}
use Rattle.cedar_policy_merge.specs.Merge.{body_ids}
use Rattle.cedar_policy_lines.specs.PolicyOutput.{id_field}
use Rattle.cedar_policy_lines.proofs.writing.push_bodies.Given as goal

abbrev pub invariant-loop-template : goal.invariant-loop-template
invariant-loop-template g l = l.out.items ++ flat_map id_field (map (λ t. t.id) l.template-iterator)
    ≡ l.initial.out.items ++ flat_map id_field (body_ids l.set)
