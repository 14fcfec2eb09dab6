use Rattle.std.proofs.Common.{subst}
use Rattle.std.specs.List.{AllZip}
use Rattle.cedar_linked_map.specs.Linked.{in_order}
use Rattle.cedar_linked_map.proofs.Copied.{IsCopy, still_linked, copied}
use Rattle.cedar_linked_map.proofs.traits.LinkedMapClone.clone.Goals as goal

pub invariant_of-result : goal.invariant_of-result
invariant_of-result g c =
    let chain = c.self.inside.chain in
    still_linked g.K.Clone.is_clone g.V.Clone.is_clone chain.nodes.entries c.in_ok-nodes.nodes.entries chain.first
    chain.last
    c.in_ok-nodes.ensures.cases c.self.invariant

pub returns : goal.returns
returns g c =
    let chain = c.self.inside.chain in
    record {
      cases = subst (λ m. AllZip (IsCopy g.K.Clone.is_clone g.V.Clone.is_clone) m.entries (in_order
          c.in_ok-nodes.nodes.entries chain.first))
          c.self.view_is
          (copied g.K.Clone.is_clone g.V.Clone.is_clone chain.nodes.entries c.in_ok-nodes.nodes.entries chain.first
          c.in_ok-nodes.ensures.cases);
    }
