use Rattle.std.specs.Prelude.{◌≡◌, ◌++◌}
use Rattle.std.specs.List.{flat_map}
use Rattle.cedar_entity_lines.specs.EntityOutput.{field_of}
use Rattle.cedar_entity_lines.specs.Holding.{AreAsciiUids}
use Rattle.cedar_entity_lines.proofs.machine.push_fields.Given as goal

abbrev pub invariant-loop-uid : goal.invariant-loop-uid
invariant-loop-uid l = AreAsciiUids l.fn.uids → AreAsciiUids l.uid-iterator
    × (l.out.items ++ flat_map field_of l.uid-iterator ≡ l.initial.out.items ++ flat_map field_of l.fn.uids)
