use Rattle.std.specs.List.{list_any}
use Rattle.std.proofs.Common.{◌∙◌, ap, sym}
use Rattle.cedar_alloc_failure_entities_tests.proofs.NewKeys.{none_among}
use Rattle.cedar_alloc_failure_entities_tests.proofs.tests.nodes.newly_joined_one.Goals as goal

pub newly_joined_to_one-requires-clause-new : goal.newly_joined_to_one-requires-clause-new
newly_joined_to_one-requires-clause-new g c =
    let edges = g.N.TCNode.edges c.args.node in
    none_among g.K.PartialEq.eq edges (g.met.N.TCNode.respects_eq c.args.node) c.args.keys.items
    (ap (list_any edges) (sym c.deref.ensures.value) ∙ sym c.has_edge_among.ensures ∙ c.if-has_edge_among.false)
