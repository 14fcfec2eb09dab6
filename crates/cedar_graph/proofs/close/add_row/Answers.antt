use Rattle.std.proofs.Common.{◌≡◌, Some, IsSome, rules, sym, refl, subst, ◌∙◌}
use Rattle.std.specs.HashMap.{get}
use Rattle.cedar_graph.proofs.Reaches.{lookup_alike, written}
use Rattle.cedar_graph.proofs.close.add_row.Goals as goal

pub returns-in_err-fill_node-clause-writes : goal.returns-in_err-fill_node-clause-writes
returns-in_err-fill_node-clause-writes g c =
    let eq = g.K.PartialEq.eq in
    let laws = g.met.K.Eq.laws in
    let edges = g.V.TCNode.edges in
    let m = c.args.nodes.now in
    let at = c.args.at.now in
    let v = c.in-Some.node.now in
    let w = c.fill_node.new.node in
    let n = c.get_mut.follows.lender w in
    let value : Some v ≡ get eq m at = c.in-Some.ensures.value in
    let holds = c.get_mut.follows.holds w in
    let updates = (holds.3 (subst (λ o. IsSome o) value refl)).0 in
    written eq edges m n at v w updates (λ q t. sym (lookup_alike laws at q t m.entries) ∙ sym value)
    c.args.row.now.items _ c.fill_node.ensures.grows (search rules)

pub returns-clause-writes : goal.returns-clause-writes
returns-clause-writes g c =
    let eq = g.K.PartialEq.eq in
    let laws = g.met.K.Eq.laws in
    let edges = g.V.TCNode.edges in
    let m = c.args.nodes.now in
    let at = c.args.at.now in
    let v = c.in-Some.node.now in
    let w = c.fill_node.new.node in
    let n = c.get_mut.follows.lender w in
    let value : Some v ≡ get eq m at = c.in-Some.ensures.value in
    let holds = c.get_mut.follows.holds w in
    let updates = (holds.3 (subst (λ o. IsSome o) value refl)).0 in
    written eq edges m n at v w updates (λ q t. sym (lookup_alike laws at q t m.entries) ∙ sym value)
    c.args.row.now.items _ c.fill_node.ensures.grows c.in_ok-fill_node.ensures.ok
