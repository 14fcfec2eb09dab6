use Rattle.std.proofs.Common.{◌≡◌, ◌+◌, ◌<◌, ◌≤◌, arith, sym, ap, ◌∙◌, length, take, take_all, [], ◌∷◌, ◌++◌, map}
use Rattle.std.specs.Set.{is_member}
use Rattle.cedar_graph.specs.laws.Arcs.{AreArcsIn}
use Rattle.cedar_graph.proofs.Members.{member_at, refs_more}
use Rattle.cedar_graph.proofs.Keyed.{prefix_back, prefix_length, prefix_trans, row_end, arc_added}
use Rattle.cedar_graph.proofs.Progress.{reads_arc, reads_more}
use Rattle.cedar_graph.proofs.arcs.read_node.Goals as goal

pub loop-edge-preserved : goal.loop-edge-preserved
loop-edge-preserved g c =
    let eq = g.K.PartialEq.eq in
    let laws = g.met.K.Eq.laws in
    let node = c.args.node.now in
    let a = c.args.a in
    let b = c.in_ok-add_arc.field-0 in
    let i = c.loop-edge.invariant in
    let e = c.in_ok-add_arc.ensures.arc in
    let s = c.loop-edge.s in
    let keys0 = c.args.s.now.keys.keys in
    let keys = s.keys.keys in
    let after = c.add_arc.new.s.keys.keys in
    let refs = c.deref-edge-items.result.now in
    let j = c.loop-edge.edge-index in
    let edge = c.edge-item.result in
    let key = edge.now in
    let j_in : j < length refs = omega arith in
    let f = e.found in
    let within : a < length keys = omega (arith, c.requires.within, prefix_length keys0 keys i.on.keys) in
    record {
      unique = e.unique;
      on = reads_more 1 0 c.args.s.now s c.add_arc.new.s i.on
          (reads_arc eq a key s c.add_arc.new.s b e c.in_ok-add_arc.ensures.reads);
      counts = λ fits. omega (arith, i.counts fits, c.in_ok-add_arc.ensures.reads);
      arcs = λ G read has.
          let arcs : AreArcsIn eq G a after (s.from.items ++ a ∷ []) (s.to.items ++ b ∷ [])
          (is_member eq (map (λ x. x.now) (take (j + 1) refs))) =
          arc_added laws G a keys after s.from.items s.to.items (is_member eq (map (λ x. x.now) (take j refs)))
          (is_member eq (map (λ x. x.now) (take (j + 1) refs))) (i.arcs G read has) e.keys within b key f.0 f.1 f.2
          (λ x h. sym (has x f.0 (prefix_back keys0 keys i.on.keys a x c.requires.within h))
          ∙ sym (g.met.V.TCNode.respects_eq node key f.0 f.2) ∙ sym (i.edges key)
          ∙ member_at eq refs j edge key j_in c.edge-item.is (laws.refl key))
          (λ q h. refs_more eq refs j edge q j_in c.edge-item.is h) in
          rw (e.from, e.to) arcs;
      edges = i.edges;
    }

pub returns : goal.returns
returns g c =
    let eq = g.K.PartialEq.eq in
    let a = c.args.a in
    let i = c.loop-edge.invariant in
    let s = c.loop-edge.s in
    let keys0 = c.args.s.now.keys.keys in
    let keys = s.keys.keys in
    let refs = c.deref-edge-items.result.now in
    let j = c.loop-edge.edge-index in
    let over : length refs ≤ j = omega arith in
    let whole : take j refs ≡ refs = take_all j refs over in
    record {
      unique = i.unique;
      on = i.on;
      counts = i.counts;
      read = λ G read has. record {
        unique = i.unique;
        arcs = row_end eq G a keys s.from.items s.to.items (is_member eq (map (λ x. x.now) (take j refs)))
            (i.arcs G read has)
            (λ x q h e. ap (λ rs. is_member eq (map (λ x. x.now) rs) q) whole ∙ i.edges q
            ∙ has x q (prefix_back keys0 keys i.on.keys a x c.requires.within h) ∙ e);
      };
    }
