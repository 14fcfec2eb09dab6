use Rattle.std.proofs.Common.{◌≡◌, ap, ◌∙◌, slice_get, Some}
use Rattle.std.proofs.lemmas.Result.{on_ok_weaker}
use Rattle.cedar_graph.specs.Graph.{graph_of, edge_at}
use Rattle.cedar_graph.proofs.arcs.read_row.Goals as goal

pub returns-in-Some-clause-read : goal.returns-in-Some-clause-read
returns-in-Some-clause-read g c =
    let eq = g.K.PartialEq.eq in
    let edges = g.V.TCNode.edges in
    let G = graph_of eq edges c.args.nodes.now in
    let keys = c.args.s.now.keys.keys in
    let key = c.index.result.now in
    let at_a : slice_get keys c.args.a ≡ Some key = c.index.ensures in
    on_ok_weaker c.read_node.result (λ r. r.read G c.requires.read (λ x q h.
    let same : key ≡ x = cc in
    ap (λ o. edge_at edges o q) c.in-Some.ensures.value ∙ ap (λ k. G k q) same)) c.read_node.ensures
