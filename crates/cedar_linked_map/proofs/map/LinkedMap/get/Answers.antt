use Rattle.std.proofs.Common.{◌∙◌, sym, ap, subst, ◌<◌, ◌^◌}
use Rattle.std.specs.Option.{option_map}
use Rattle.indexmap.specs.IndexMap.{get_by}
use Rattle.cedar_linked_map.proofs.Seen.{looked_up}
use Rattle.cedar_linked_map.proofs.map.LinkedMap.get.Goals as goal

pub returns-in-None : goal.returns-in-None
returns-in-None g c =
    let t = g.Q.Equivalent.equivalent c.args.key in
    let chain = c.self.inside.chain in
    record {
      value = sym (ap (get_by t) (sym c.self.view_is)
          ∙ looked_up chain.nodes.entries chain.first chain.last (subst (λ n. n < 2 ^ 63) c.len-len.ensures.len
          c.len-len.ensures.small) c.self.invariant
          g.met.K.Eq.laws c.len-len.ensures.unique t (g.met.Q.Equivalent.respects_eq c.args.key)
          ∙ ap (option_map (λ n. n.value)) (sym c.in-None.ensures.value));
    }

pub returns-in-Some : goal.returns-in-Some
returns-in-Some g c =
    let t = g.Q.Equivalent.equivalent c.args.key in
    let chain = c.self.inside.chain in
    record {
      value = sym (ap (get_by t) (sym c.self.view_is)
          ∙ looked_up chain.nodes.entries chain.first chain.last (subst (λ n. n < 2 ^ 63) c.len-len.ensures.len
          c.len-len.ensures.small) c.self.invariant
          g.met.K.Eq.laws c.len-len.ensures.unique t (g.met.Q.Equivalent.respects_eq c.args.key)
          ∙ ap (option_map (λ n. n.value)) (sym c.in-Some.ensures.value));
    }
