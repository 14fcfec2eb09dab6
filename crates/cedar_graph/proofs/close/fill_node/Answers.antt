use Rattle.std.proofs.Common.{◌≡◌, arith, ◌∙◌, length}
use Rattle.std.specs.Set.{is_member}
use Rattle.std.proofs.lemmas.Grind.{common_steps}
use Rattle.std.proofs.lemmas.Option.{slice_get_within}
use Rattle.std.proofs.lemmas.Result.{on_ok_weaker}
use Rattle.cedar_graph.proofs.Keyed.{got_of_member, or_right}
use Rattle.cedar_graph.proofs.close.fill_node.Goals as goal

pub returns-then-is_empty-clause-ok : goal.returns-then-is_empty-clause-ok
returns-then-is_empty-clause-ok g c =
    let eq = g.K.PartialEq.eq in
    let row = c.args.row.now.items in
    let none : length row ≡ 0 = grind (arith, common_steps) in
    λ q m.
    let n = got_of_member eq row q m in
    let within = slice_get_within row n.0 n.1 n.2 in
    absurd (omega arith)

pub returns-then-ascending-clause-ok : goal.returns-then-ascending-clause-ok
returns-then-ascending-clause-ok g c =
    let eq = g.K.PartialEq.eq in
    let old = g.V.TCNode.edges c.args.node.now in
    let row = c.args.row.now.items in
    on_ok_weaker c.add_ascending_edges_to.result (λ ok q m. ok q ∙ or_right (old q) (is_member eq row q) m)
    c.add_ascending_edges_to.ensures.ok

pub returns-clause-ok : goal.returns-clause-ok
returns-clause-ok g c =
    let eq = g.K.PartialEq.eq in
    let old = g.V.TCNode.edges c.args.node.now in
    let row = c.args.row.now.items in
    on_ok_weaker c.add_new_edges_to.result (λ ok q m. ok q ∙ or_right (old q) (is_member eq row q) m)
    c.add_new_edges_to.ensures.ok
