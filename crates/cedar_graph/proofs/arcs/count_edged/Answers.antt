use mir.Val.{bool_byte}
use Rattle.std.proofs.Common.{◌≡◌, [], Bool, true, false, arith, map, refl, sym, ◌∙◌}
use Rattle.std.specs.Borrow.{Bor}
use Rattle.std.proofs.lemmas.Bool.{false≢true}
use Rattle.std.specs.Map.Iter.{deref_pair}
use Rattle.std.proofs.lemmas.Map.Iter.{iter_end}
use Rattle.std.proofs.lemmas.Option.{slice_get_within}
use Rattle.std.proofs.lemmas.List.Elements.{All-map, All-push, All-weaker, recursion_from_All, All-same}
use Rattle.cedar_graph.specs.laws.Arcs.{HasNumber}
use Rattle.cedar_graph.proofs.Members.{numbered_from_all}
use Rattle.cedar_graph.proofs.arcs.count_edged.Goals as goal

pub returns : goal.returns
returns g c = λ nothing q b h.
    let eq = g.K.PartialEq.eq in
    let edges = g.V.TCNode.edges in
    let m = c.args.nodes.now in
    let gives = c.into_iter-key-iterator.ensures.into_iter_gives in
    let whole = (iter_end deref_pair m.entries c.loop-key.yielded c.into_iter-key-iterator.result
    c.loop-key._key-iterator c.next.new.self c.next.result gives.0 c.loop-key.yielded_by c.in-None.is
    c.next.ensures.steps).0 in
    let P : (g.row.K.Denot × g.row.V.Denot) → Type 0 = λ e. (b : g.row.K.Denot) → edges e.1 b ≡ true
    → HasNumber eq [] e.0 in
    let Q : (g.row.K.Denot × g.row.V.Denot) → Type 0 = λ e. (b : g.row.K.Denot) → edges e.1 b ≡ true → ⊥ in
    let none = All-same Q m.entries (map deref_pair c.loop-key.yielded) (sym whole)
    (All-map Q deref_pair c.loop-key.yielded (c.loop-key.invariant nothing)) in
    let n = numbered_from_all g.met.K.Eq.laws edges m [] (recursion_from_All P m.entries
    (All-weaker Q P (λ e out b edge. absurd (out b edge)) m.entries none)) q b h in
    absurd (omega (arith, slice_get_within [] n.0 n.1 n.2))

none_counted : (b : Bool) → bool_byte b ≡ 0 → b ≡ false
none_counted true h = absurd (omega (arith, h))
none_counted false h = refl

pub loop-key-preserved : goal.loop-key-preserved
loop-key-preserved g c = λ nothing.
    let edges = g.V.TCNode.edges in
    let before : c.loop-key.count ≡ 0 = omega (arith, c.saturating_add-count.ensures, nothing) in
    let byte : bool_byte c.may_have_edges.result ≡ 0 = omega (arith, c.saturating_add-count.ensures, nothing) in
    let none = c.may_have_edges.ensures (none_counted c.may_have_edges.result byte) in
    All-push (λ (p : Bor g.row.K.Denot × Bor g.row.V.Denot). (b : g.row.K.Denot) → edges p.1.now b ≡ true → ⊥)
    c.loop-key.yielded (c.in-Some._key, c.in-Some.node) (c.loop-key.invariant before)
    (λ b edge. false≢true (sym (none b) ∙ edge))
