use Rattle.std.proofs.Common.{◌∙◌, sym, ap, subst, ◌<◌, ◌^◌}
use Rattle.indexmap.specs.IndexMap.{get}
use Rattle.cedar_linked_map.proofs.Seen.{looked_up, none_before}
use Rattle.cedar_linked_map.proofs.map.LinkedMap.push.Goals as goal

pub push-requires-clause-absent : goal.push-requires-clause-absent
push-requires-clause-absent g c =
    let chain = c.self.inside.chain in
    let k = c.args.key in
    none_before (λ n. n.value) _
    (sym (looked_up chain.nodes.entries chain.first chain.last (subst (λ n. n < 2 ^ 63) c.len-len.ensures.len
    c.len-len.ensures.small) c.self.invariant
    g.met.K.Eq.laws c.len-len.ensures.unique (g.K.PartialEq.eq k) (g.met.K.Eq.laws.congr k))
    ∙ ap (λ m. get g.K.PartialEq.eq m k) c.self.view_is ∙ c.requires.absent)
