use Rattle.std.proofs.Common.{◌≡◌, ◌<◌, false, arith, sym, ap, ◌∙◌, length, slice_get, subst, Some}
use Rattle.std.proofs.lemmas.Option.{slice_get-get_or}
use Rattle.cedar_graph.specs.laws.Readings.{IsReadBelow, ReadsOn}
use Rattle.cedar_graph.proofs.Keyed.{prefix_back}
use Rattle.cedar_graph.proofs.Progress.{reads_more, reads_none}
use Rattle.cedar_graph.proofs.arcs.read_nodes.Goals as goal

pub loop-a-init : goal.loop-a-init
loop-a-init g c = record {
  within = omega arith;
  unique = (c.requires.fresh (λ _ _. false)).unique;
  on = reads_none 0 c.args.s.now;
  counts = λ _. omega arith;
  read = λ G has. c.requires.fresh G;
}

pub loop-a-preserved : goal.loop-a-preserved
loop-a-preserved g c =
    let a = c.loop-a.a in
    let i = c.loop-a.invariant in
    let e = c.in_ok-read_node.ensures in
    let keys0 = c.args.s.now.keys.keys in
    let keys = c.loop-a.s.keys.keys in
    let after = c.read_node.new.s.keys.keys in
    let rows = c.args.nodes.now in
    let node = c.index-nodes-a.result in
    let a_in : a < length rows = omega arith in
    let within : a < length keys0 = omega (arith, c.requires.within) in
    let at_a : slice_get rows a ≡ Some node = slice_get-get_or rows a node a_in ∙ ap Some (sym c.index-nodes-a.is) in
    record {
      within = omega arith;
      unique = e.unique;
      on = reads_more a 1 c.args.s.now c.loop-a.s c.read_node.new.s i.on e.on;
      counts = λ fits. omega (arith, i.counts (omega arith), e.counts (omega (arith, i.counts (omega arith))));
      read = λ G has. e.read G (i.read G has)
          (λ x q h. has a x q node (prefix_back keys0 keys i.on.keys a x within h) at_a);
    }

pub returns : goal.returns
returns g c =
    let eq = g.K.PartialEq.eq in
    let i = c.loop-a.invariant in
    let all : c.loop-a.a ≡ length c.args.nodes.now = omega arith in
    record {
      on = subst (λ n. ReadsOn n c.args.s.now c.loop-a.s) all i.on;
      counts = λ fits. omega (arith, i.counts (omega arith));
      read = λ G has. subst (λ n. IsReadBelow eq G n c.loop-a.s) all (i.read G has);
    }
