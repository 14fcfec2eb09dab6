use Rattle.std.proofs.Common.{◌≡◌, ◌∷◌, [], Some, true, inl, inr, arith, length-append, map, ap, sym, ◌∙◌}
use Rattle.std.specs.Borrow.{Bor}
use Rattle.std.specs.HashMap.{get}
use Rattle.std.specs.Map.Iter.{deref_pair}
use Rattle.std.proofs.lemmas.Map.Iter.{iter_end, hash_map_turn}
use Rattle.std.proofs.lemmas.List.Elements.{All-map, All-push, recursion_from_All, All-same}
use Rattle.cedar_graph.specs.laws.Arcs.{HasNumber}
use Rattle.cedar_graph.proofs.Keyed.{prefix_number}
use Rattle.cedar_graph.proofs.Members.{numbered_from_all}
use Rattle.cedar_graph.proofs.Reaches.{lookup_alike}
use Rattle.cedar_graph.proofs.arcs.number_edged.Goals as goal

pub loop-key-preserved : goal.loop-key-preserved
loop-key-preserved g c =
    let eq = g.K.PartialEq.eq in
    let laws = g.met.K.Eq.laws in
    let edges = g.V.TCNode.edges in
    let m = c.args.nodes.now in
    let e = c.in_ok-push_with_edges.ensures in
    let i = c.loop-key.invariant in
    let now = c.loop-key.edged.keys.keys in
    let after = c.push_with_edges.new.edged.keys.keys in
    let key = c.in-Some.key.now in
    let gives = c.into_iter-key-iterator.ensures.into_iter_gives in
    let found : get eq m key ≡ Some c.in-Some.node.now =
    (hash_map_turn deref_pair c.loop-key.yielded c.into_iter-key-iterator.result c.loop-key.key-iterator
    c.next.new.self c.next.result (c.in-Some.key, c.in-Some.node) c.loop-key.yielded_by c.in-Some.is
    c.next.ensures.steps laws m gives.0 gives.4).1 in
    record {
      unique = e.unique;
      done = All-push (λ (p : Bor g.row.K.Denot × Bor g.row.V.Denot). (b : g.row.K.Denot) → edges p.1.now b ≡ true
          → HasNumber eq after p.0.now) c.loop-key.yielded (c.in-Some.key, c.in-Some.node)
          (λ k d h b edge. prefix_number now after e.keys eq _ (i.done k d h b edge)) e.has;
      nodes = λ k x r at_x at_r. elim (e.nodes k x r at_x at_r) [
        | inl p ↦ i.nodes k x r p.0 p.1
        | inr p ↦ sym (lookup_alike laws key x p.0 m.entries) ∙ found ∙ ap Some (sym p.1)
      ];
      len = e.len;
      few = omega (
        arith,
        e.one,
        i.few,
        length-append c.loop-key.yielded ((c.in-Some.key, c.in-Some.node) ∷ []),
      );
    }

pub returns-clause-all : goal.returns-clause-all
returns-clause-all g c =
    let eq = g.K.PartialEq.eq in
    let edges = g.V.TCNode.edges in
    let m = c.args.nodes.now in
    let keys = c.loop-key.edged.keys.keys in
    let gives = c.into_iter-key-iterator.ensures.into_iter_gives in
    let whole = (iter_end deref_pair m.entries c.loop-key.yielded c.into_iter-key-iterator.result
    c.loop-key.key-iterator c.next.new.self c.next.result gives.0 c.loop-key.yielded_by c.in-None.is
    c.next.ensures.steps).0 in
    let P : (g.row.K.Denot × g.row.V.Denot) → Type 0 = λ e. (b : g.row.K.Denot) → edges e.1 b ≡ true
    → HasNumber eq keys e.0 in
    numbered_from_all g.met.K.Eq.laws edges m keys (recursion_from_All P m.entries
    (All-same P m.entries (map deref_pair c.loop-key.yielded) (sym whole)
    (All-map P deref_pair c.loop-key.yielded c.loop-key.invariant.done)))
