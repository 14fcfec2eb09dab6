use Rattle.std.proofs.Common.{◌∙◌, ◌++◌, sym, ap, subst}
use Rattle.std.specs.List.{IsDistinct}
use Rattle.std.specs.Map.{keys_of}
use Rattle.cedar_linked_map.proofs.Sets.{absent_value}
use Rattle.cedar_linked_map.proofs.set.push_values.Goals as goal

pub push-requires-clause-absent : goal.push-requires-clause-absent
push-requires-clause-absent g c =
    absent_value g.met.T.Eq.laws c.loop-value.map.entries c.in-Some.value c.next.new.self
    (subst (IsDistinct g.T.PartialEq.eq)
    (sym c.loop-value.invariant.keys ∙ ap (λ l. keys_of c.loop-value.map.entries ++ l) c.in-Some.ensures.steps)
    c.loop-value.invariant.unique)
