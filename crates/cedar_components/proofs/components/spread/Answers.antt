use Rattle.std.proofs.Common.{◌-◌, ◌<◌, inl, inr, arith, length, get_or, sym, ◌∙◌}
use Rattle.std.proofs.lemmas.Bool.{cases_lt, cases_eq}
use Rattle.cedar_components.specs.laws.Arcs.{IsArc}
use Rattle.cedar_components.proofs.ComponentSteps.{advanced}
use Rattle.cedar_components.proofs.Fills.{next_in, next_end}
use Rattle.cedar_components.proofs.components.spread.Goals as goal

pub loop-p-preserved : goal.loop-p-preserved
loop-p-preserved c =
    let i = c.loop-p.invariant in
    let e = c.in_ok-meet.ensures in
    let g = c.args.graph.now in
    let to = g.arcs.to.now in
    let head = g.arcs.head.now in
    let link = g.arcs.link.now in
    let links = c.requires.state.searched.arcs.links in
    let p = c.loop-p.p in
    let x = c.index-x.result.now in
    let some : 0 < p = c.loop-p-test.true in
    let is = i.ends some in
    let within : p - 1 < length to = omega (arith, i.bound) in
    record {
      gathers = record {
        state = e.gathers.state;
        less = omega (arith, i.gathers.less, e.gathers.less);
        longer = omega (arith, i.gathers.longer, e.gathers.longer);
        stays = λ y h. e.gathers.stays y (i.gathers.stays y h);
      };
      same = e.same ∙ i.same;
      bound = next_in to head link g.numbers links x p some i.bound is;
      ends = next_end to head link g.numbers links x p some i.bound is;
      read = λ j ge j_in at_x. elim (cases_lt j p) [
        | inr above ↦ e.gathers.stays (get_or g.arcs.from.now j 0) (i.read j above j_in at_x)
        | inl below ↦ elim (cases_eq j (p - 1)) [
          | inl same ↦ rw same e.met
          | inr ne ↦
              let lower = links.link_all j (p - 1) within (omega arith) (at_x ∙ sym is) in
              absurd (omega arith)
        ]
      ];
    }

pub returns : goal.returns
returns c =
    let g = c.args.graph.now in
    let s = c.loop-p.s in
    let i = c.loop-p.invariant in
    let h = i.gathers.state in
    let same_len = c.requires.state.searched.arcs.arcs.same_len in
    let in_queue : c.args.i < length s.queue.items = omega (arith, i.gathers.longer, c.requires.in_queue) in
    record {
      state = record {
        searched = h.searched;
        some = h.some;
        in_order = h.in_order;
        components = advanced (IsArc g.arcs) g.numbers g.order.now c.args.b s.component.items s.queue.items c.args.i
            h.components in_queue
            (λ v k e. rw e.2 at (i.read e.0 (omega arith) (omega (arith, e.1, same_len)) (e.3 ∙ i.same)));
      };
      less = i.gathers.less;
      longer = i.gathers.longer;
      stays = i.gathers.stays;
    }
