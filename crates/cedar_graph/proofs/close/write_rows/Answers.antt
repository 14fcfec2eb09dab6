use Rattle.std.proofs.Common.{◌≡◌, ◌+◌, ◌<◌, ◌≤◌, arith, rules, inl, inr, refl, sym, subst, ◌∙◌, length}
use Rattle.std.proofs.lemmas.Bool.{false≢true}
use Rattle.std.proofs.lemmas.Grind.{common_steps}
use Rattle.std.proofs.lemmas.Option.{slice_get_within}
use Rattle.cedar_components.specs.Reach.{HasArc}
use Rattle.cedar_graph.specs.laws.Readings.{IsArc}
use Rattle.cedar_graph.specs.laws.Arcs.{Ascends}
use Rattle.cedar_graph.specs.laws.Writings.{AreMarked, IsToFix, StartsAt}
use Rattle.cedar_graph.proofs.Reaches.{same_found, KeepsAll-refl, KeepsAll-trans}
use Rattle.cedar_graph.proofs.Keyed.{number_same}
use Rattle.cedar_graph.proofs.Loops.{marked_more, none_further}
use Rattle.cedar_graph.proofs.Rows.{none_written, rows_next, rows_written, rows_wider}
use Rattle.cedar_graph.proofs.close.write_rows.Goals as goal
use Rattle.cedar_graph.proofs.close.write_rows.Goals.{then-has_loop, else-has_loop+then-index-ne0}
use Rattle.cedar_graph.proofs.close.write_rows.Goals.{else-has_loop+else-index-ne0}

pub loop-x-init : goal.loop-x-init
loop-x-init g c =
    let eq = g.K.PartialEq.eq in
    let node = g.V.TCNode in
    let read = c.args.read.now in
    let m = c.args.nodes.now in
    record {
      marks_len = search rules;
      marks_below = λ y h. grind (arith, common_steps);
      place = omega arith;
      starts = record { before = λ k h. omega arith; after = λ k h lt. omega arith };
      keeps = KeepsAll-refl eq node.key node.rest node.kept m;
      writes = none_written eq node.edges read.reading.keys.keys (IsArc read.reading) (IsToFix eq read) m;
      counts = record { most = omega arith; all = λ _. refl };
      marked = λ w y h e. absurd (omega (arith, h));
      loops = λ _ w v le h e goes. absurd (omega (arith, h));
    }

pub mark_targets-place-requires-clause-before : goal.mark_targets-place-requires-clause-before
mark_targets-place-requires-clause-before g c = c.loop-x.invariant.marks_below

pub mark_targets-place-requires-clause-place : goal.mark_targets-place-requires-clause-place
mark_targets-place-requires-clause-place g c = subst (λ v. c.loop-x.place ≤ length v)
    (sym c.deref.ensures.value) c.loop-x.invariant.place

pub mark_targets-place-requires-clause-ascending : goal.mark_targets-place-requires-clause-ascending
mark_targets-place-requires-clause-ascending g c =
    subst Ascends (sym c.deref.ensures.value) c.requires.read.ascending

pub mark_targets-place-requires-clause-starts : goal.mark_targets-place-requires-clause-starts
mark_targets-place-requires-clause-starts g c =
    subst (λ v. StartsAt v c.loop-x.x c.loop-x.place) (sym c.deref.ensures.value) c.loop-x.invariant.starts

pub write_number-requires-clause-known : goal.write_number-requires-clause-known
write_number-requires-clause-known g c =
    let read = c.args.read.now in
    let x = c.loop-x.x in
    let marked = c.mark_targets-place.ensures in
    let i = c.loop-x.invariant in
    let len = marked.len ∙ i.marks_len in
    record {
      len = len;
      edges = λ y k l at_k at_l mark.
          let y_in = slice_get_within read.reading.keys.keys y l at_l in
          let arc = marked.known.only y (subst (λ n. y < n) (sym len) y_in) mark in
          let arc_in : HasArc read.reading.from.items read.reading.to.items x y =
          subst (λ v. HasArc v read.reading.to.items x y) c.deref.ensures.value
          (subst (λ v. HasArc c.deref.result.now v x y) c.deref-in-loop-x.ensures.value arc) in
          i.writes.stays k l (c.requires.read.edges x y k l arc_in at_k at_l);
      all = λ k q at_k e. elim (i.writes.only k q e) [
        | inl old ↦
            let arc = c.requires.read.complete x k q (omega arith) at_k old in
            let arc_to : HasArc read.reading.from.items c.deref-in-loop-x.result.now x arc.0 =
            subst (λ v. HasArc read.reading.from.items v x arc.0) (sym c.deref-in-loop-x.ensures.value) arc.2 in
            let arc_in : HasArc c.deref.result.now c.deref-in-loop-x.result.now x arc.0 =
            subst (λ v. HasArc v c.deref-in-loop-x.result.now x arc.0) (sym c.deref.ensures.value) arc_to in
            (arc.0, arc.1, arc.3, marked.known.all arc.0 arc_in, arc.4)
        | inr row ↦
            let same : x ≡ row.0 = number_same g.met.K.Eq.laws read.reading.keys.keys c.requires.read.unique x row.0 k
            row.2.0 at_k row.2.1 (g.met.K.Eq.laws.symm k row.2.0 ∙ row.2.2) in
            absurd (omega (arith, row.1))
      ];
    }

pub returns-in_err-closings-clause-keeps : goal.returns-in_err-closings-clause-keeps
returns-in_err-closings-clause-keeps g c =
    let node = g.V.TCNode in
    KeepsAll-trans g.K.PartialEq.eq node.key node.rest node.kept c.args.nodes.now c.loop-x.nodes
    c.write_number.new.nodes c.loop-x.invariant.keeps c.write_number.ensures.keeps

pub returns-in_err-closings-clause-writes : goal.returns-in_err-closings-clause-writes
returns-in_err-closings-clause-writes g c =
    let eq = g.K.PartialEq.eq in
    let edges = g.V.TCNode.edges in
    let read = c.args.read.now in
    let keys = read.reading.keys.keys in
    let E = IsArc read.reading in
    let A = IsToFix eq read in
    let m = c.args.nodes.now in
    let n = c.loop-x.nodes in
    let o = c.write_number.new.nodes in
    let r = c.write_number.result in
    let x = c.loop-x.x in
    let i = c.loop-x.invariant in
    let one = rows_written eq edges keys E A m n o r x (λ q at. (x, omega arith, at)) i.keeps.rests.keys_stay i.writes
    c.write_number.ensures.writes in
    rows_wider eq edges keys E A m o r c.from_residual-in_err-closings.result (x + 1) read.fixed (omega arith) one
    (search rules)

pub loop-x-preserved : goal.loop-x-preserved
loop-x-preserved g c =
    let eq = g.K.PartialEq.eq in
    let node = g.V.TCNode in
    let read = c.args.read.now in
    let keys = read.reading.keys.keys in
    let m = c.args.nodes.now in
    let n = c.loop-x.nodes in
    let o = c.write_number.new.nodes in
    let x = c.loop-x.x in
    let marked = c.mark_targets-place.ensures in
    let i = c.loop-x.invariant in
    let e = c.in_ok-closings.ensures in
    let same = i.keeps.rests.keys_stay in
    let from = read.reading.from.items in
    let to = read.reading.to.items in
    let E = IsArc read.reading in
    let marks = c.mark_targets-place.new.known.marks.items in
    let led : AreMarked E (x + 1) marks = marked_more E x c.mark_targets-place.new.known.mark
    c.loop-x.known.marks.items marks i.marked marked.grows (λ y arc.
    let arc_to : HasArc from c.deref-in-loop-x.result.now x y = subst (λ v. HasArc from v x y)
    (sym c.deref-in-loop-x.ensures.value) arc in
    marked.known.all y (subst (λ v. HasArc v c.deref-in-loop-x.result.now x y) (sym c.deref.ensures.value) arc_to))
    marked.mark in
    record {
      marks_len = marked.len ∙ i.marks_len;
      marks_below = marked.below;
      place = subst (λ v. c.mark_targets-place.result ≤ length v) c.deref.ensures.value marked.place;
      starts = subst (λ v. StartsAt v (x + 1) c.mark_targets-place.result) c.deref.ensures.value marked.starts;
      keeps = KeepsAll-trans eq node.key node.rest node.kept m n o i.keeps e.keeps;
      writes = rows_next eq node.edges keys (IsArc read.reading) (IsToFix eq read) m n o c.write_number.result x
          (λ q at. (x, omega arith, at)) same i.writes c.write_number.ensures.writes e.writes.ok;
      counts = record {
        most = omega (arith, i.counts.most, e.count.most);
        all = λ has. omega (
          arith,
          i.counts.all has,
          e.count.all
              (λ q at. same_found eq m n q same ∙ has q (x, omega arith, at)),
        );
      };
      marked = led;
      loops = elim c.if-has_loop.branch [
        | then-has_loop w ↦ λ no. absurd (false≢true (sym no ∙ w.has_loop-is ∙ w.if-has_loop.true))
        | else-has_loop+then-index-ne0 w ↦ λ no. none_further E x marks (i.loops w.if-has_loop.false)
            (λ _ goes. w.reaches_itself.ensures.none (sym w.has_loop-is ∙ no) goes) led
        | else-has_loop+else-index-ne0 w ↦ λ no. none_further E x marks (i.loops w.if-has_loop.false)
            (λ above goes. absurd (grind (arith, common_steps))) led
      ];
    }

pub returns-clause-keeps : goal.returns-clause-keeps
returns-clause-keeps g c = c.loop-x.invariant.keeps

pub returns-clause-writes : goal.returns-clause-writes
returns-clause-writes g c =
    let w = c.loop-x.invariant.writes in
    record {
      alone = w.alone;
      stays = w.stays;
      only = λ a b h. elim (w.only a b h) [
        | inl o ↦ inl o
        | inr e ↦ inr (e.0, omega (arith, e.1), e.2)
      ];
      ok = λ a b e. w.ok a b (e.0, omega (arith, e.1), e.2);
    }

pub returns-clause-loops : goal.returns-clause-loops
returns-clause-loops g c = λ no w x le h e goes. c.loop-x.invariant.loops no w x le (omega (arith, h)) e goes

pub returns-clause-work : goal.returns-clause-work
returns-clause-work g c =
    let counts = c.loop-x.invariant.counts in
    record {
      reads = search rules;
      closings = record { most = omega (arith, counts.most); all = λ has. omega (arith, counts.all has) };
    }
