use Rattle.std.proofs.Common.{◌≡◌, ◌<◌, ◌≤◌, Some, arith, ap, rules, get_or, sym, refl, subst, ◌∙◌, length, take, inl, inr}
use Rattle.std.specs.List.{slice_get}
use Rattle.std.proofs.lemmas.Bool.{cases_lt}
use Rattle.std.specs.Set.{is_member}
use Rattle.std.proofs.lemmas.Option.{get_or_from_slice_get, slice_get_within}
use Rattle.cedar_graph.specs.Graph.{graph_of}
use Rattle.cedar_graph.specs.laws.Arcs.{IsPrefix}
use Rattle.cedar_graph.proofs.Reaches.{graph_from, and_parts, and_from}
use Rattle.cedar_graph.proofs.Keyed.{got_some, prefix_got, prefix_back, prefix_length, prefix_trans, prefix_take}
use Rattle.cedar_graph.proofs.Keyed.{number_same, got_of_member, member_of_got, member_alike}
use Rattle.cedar_graph.proofs.arcs.read_fix.Goals as goal

pub returns : goal.returns
returns g c =
    let eq = g.K.PartialEq.eq in
    let laws = g.met.K.Eq.laws in
    let edges = g.V.TCNode.edges in
    let alike = g.met.V.TCNode.respects_eq in
    let nodes = c.args.nodes.now in
    let G = graph_of eq edges nodes in
    let numbered = c.in_ok-keys.ensures in
    let one = c.in_ok-read_rows.ensures in
    let two = c.in_ok-read_rows-2.ensures in
    let arcs = two.read.arcs in
    let s = c.read_rows-2.new.s in
    let keys0 = c.in_ok-keys.keys.keys in
    let keys1 = c.read_rows.new.s.keys.keys in
    let keys = s.keys.keys in
    let len : c.len-fixed.result ≡ length keys0 = search rules in
    let near_len : c.len-near.result ≡ length keys1 = search rules in
    let near_is : take (length keys1) keys ≡ keys1 = prefix_take keys1 keys two.on.keys in
    let near_in : length keys1 ≤ length keys = prefix_length keys1 keys two.on.keys in
    let first : IsPrefix keys0 keys1 = subst (λ ks. IsPrefix ks.keys keys1) c.in_ok-s.ensures.0 one.on.keys in
    let first_in : length keys0 ≤ length keys1 = prefix_length keys0 keys1 first in
    let whole = prefix_trans keys0 keys1 keys first two.on.keys in
    record {
      unique = two.read.unique;
      ascending = arcs.ascending;
      arcs = record {
        same_len = arcs.same_len;
        from_in = λ k h. omega (arith, arcs.from_in k h);
        to_in = arcs.to_in;
      };
      fixed = omega arith;
      same = rw (near_len, near_is) (record {
        respects_eq = λ x y z h. rw (member_alike laws keys1 x y h, graph_from laws edges alike nodes x y z h);
        has_key = λ a b h. got_some keys b (rw (← h.3) (arcs.to_in h.0 h.1));
        sound = λ a b x y h f t.
            let x_in : a < length keys1 = omega (arith, rw h.2 at (arcs.from_in h.0 h.1)) in
            and_from (is_member eq keys1 x) (G x y)
            (member_of_got eq keys1 a x x (prefix_back keys1 keys two.on.keys a x x_in f) (laws.refl x))
            (arcs.sound h.0 x y h.1 (rw h.2 f) (rw h.3 t));
        complete = λ a x q f e.
            let p = and_parts (is_member eq keys1 x) (G x q) e in
            let n = got_of_member eq keys1 x p.0 in
            let same : a ≡ n.0 = number_same laws keys two.read.unique a n.0 x n.1 f
            (prefix_got keys1 keys two.on.keys n.0 n.1 n.2) n.3 in
            let n_in : n.0 < length keys1 = slice_get_within keys1 n.0 n.1 n.2 in
            let h = arcs.complete a x q (omega arith) f p.1 in
            (get_or s.to.items h.0 0, h.1, (h.0, h.2, h.3, refl), h.4, h.5);
      });
      len = omega (arith, numbered.len);
      least = omega (arith, numbered.least);
      all = λ q h.
          let n = numbered.all q h in
          (n.0, n.1, omega (arith, slice_get_within keys0 n.0 n.1 n.2), prefix_got keys0 keys whole n.0 n.1 n.2, n.3);
      only = λ i k lt got. numbered.only i k (prefix_back keys0 keys whole i k (omega arith) got);
      near = rw (near_len, near_is) (λ x u h e.
          let n = numbered.all x h in
          let n_in : n.0 < length keys0 = slice_get_within keys0 n.0 n.1 n.2 in
          let a = one.read.arcs.complete n.0 n.1 u (omega arith) (prefix_got keys0 keys1 first n.0 n.1 n.2)
          (sym (graph_from laws edges alike nodes x n.1 u n.3) ∙ e) in
          member_of_got eq keys1 (get_or c.read_rows.new.s.to.items a.0 0) a.1 u a.4 a.5);
      near_fixed = rw (near_len, near_is) (λ x h.
          let n = numbered.all x h in
          member_of_got eq keys1 n.0 n.1 x (prefix_got keys0 keys1 first n.0 n.1 n.2) n.3);
      only_near = rw (near_len) (λ i k lt got.
          let at_i = prefix_back keys1 keys two.on.keys i k lt got in
          elim (cases_lt i (length keys0)) [
            | inl fixed ↦ inl (numbered.only i k (prefix_back keys0 keys1 first i k fixed at_i))
            | inr further ↦
                let from_start : length c.in_ok-s.s.keys.keys ≤ i = subst (λ ks. length ks.keys ≤ i)
                (sym c.in_ok-s.ensures.0) further in
                let t = one.on.targets i from_start lt in
                let led = one.read.arcs in
                let in_to = slice_get_within c.read_rows.new.s.to.items t.0 i t.1 in
                let in_from : t.0 < length c.read_rows.new.s.from.items = omega (arith, led.same_len, in_to) in
                let a = get_or c.read_rows.new.s.from.items t.0 0 in
                let a_in : a < length keys0 = omega (arith, led.from_in t.0 in_from) in
                let x = got_some keys1 a (omega (arith, a_in, first_in)) in
                let at_to : slice_get keys1 (get_or c.read_rows.new.s.to.items t.0 0) ≡ Some k =
                ap (slice_get keys1) (get_or_from_slice_get c.read_rows.new.s.to.items t.0 i 0 t.1) ∙ at_i in
                inr (
                  x.0,
                  numbered.only a x.0 (prefix_back keys0 keys1 first a x.0 a_in x.1),
                  led.sound t.0 x.0 k in_from x.1 at_to,
                )
          ]);
      within = omega (arith, near_in, near_len);
      reads = omega (arith, c.in_ok-s.ensures.3, one.on.reads, two.on.reads);
    }
