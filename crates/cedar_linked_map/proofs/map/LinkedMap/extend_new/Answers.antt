use Rattle.std.proofs.Common.{◌∙◌, ◌++◌, sym, ap, subst}
use Rattle.std.specs.List.{IsDistinct}
use Rattle.std.specs.Map.{keys_of}
use Rattle.indexmap.proofs.MapLemmas.{absent_before}
use Rattle.cedar_linked_map.proofs.map.LinkedMap.extend_new.Goals as goal

pub push-requires-clause-absent : goal.push-requires-clause-absent
push-requires-clause-absent g c =
    absent_before g.met.K.Eq.laws c.loop-key.self.entries c.next.new.self (c.in-Some.key, c.in-Some.value)
    (subst (λ es. IsDistinct g.K.PartialEq.eq (keys_of es))
    (sym c.loop-key.invariant.entries ∙ ap (λ l. c.loop-key.self.entries ++ l) c.in-Some.ensures.steps) c.requires.new)
