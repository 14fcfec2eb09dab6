use Rattle.std.proofs.Common.{◌∙◌, sym, ap, subst, ◌<◌, ◌^◌}
use Rattle.indexmap.specs.IndexMap.{index_map_len, IsUnique}
use Rattle.cedar_linked_map.proofs.Seen.{same_length, still_unique}
use Rattle.cedar_linked_map.proofs.map.LinkedMap.len.Goals as goal

pub returns-clause-len : goal.returns-clause-len
returns-clause-len g c =
    let chain = c.self.inside.chain in
    c.len.ensures.len
    ∙ sym (same_length chain.nodes.entries chain.first chain.last (subst (λ n. n < 2 ^ 63) c.len.ensures.len
    c.len.ensures.small) c.self.invariant)
    ∙ ap index_map_len c.self.view_is

pub returns-clause-unique : goal.returns-clause-unique
returns-clause-unique g c =
    let chain = c.self.inside.chain in
    subst (IsUnique g.K.PartialEq.eq) c.self.view_is
    (still_unique chain.nodes.entries chain.first chain.last (subst (λ n. n < 2 ^ 63) c.len.ensures.len
    c.len.ensures.small) c.self.invariant
    g.met.K.Eq.laws c.len.ensures.unique)
