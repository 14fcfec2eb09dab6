use Rattle.std.proofs.Common.{◌≡◌, ◌<◌, Some, inl, inr, arith, get_or, sym, ap, ◌∙◌, length, slice_get}
use Rattle.std.proofs.lemmas.Option.{slice_get-get_or}
use Rattle.std.proofs.lemmas.Bool.{cases_eq}
use Rattle.cedar_graph.proofs.InOrder.{later_in_order, taken_in_order}
use Rattle.cedar_graph.proofs.close.pick_run.Goals as goal

pub loop-place-preserved : goal.loop-place-preserved
loop-place-preserved g c =
    let eq = g.K.PartialEq.eq in
    let e = c.in_ok-pick_key.ensures.taken in
    let i = c.loop-place.invariant.taken in
    let n = c.loop-place.place in
    let numbers = c.args.numbers.now in
    let keys = c.args.keys.now in
    let key = c.index-keys-numbers.result in
    let y = get_or numbers n 0 in
    let y_in : y < length keys = c.requires.numbers n (omega arith) in
    let got : slice_get keys y ≡ Some key = slice_get-get_or keys y key y_in ∙ ap Some (sym c.index-keys-numbers.is) in
    record {
      taken = record {
        stays = λ q h. e.stays q (i.stays q h);
        only = λ q h. elim (e.only q h) [
          | inl o ↦ elim (i.only q o) [
            | inl old ↦ inl old
            | inr w ↦ inr (w.0, w.1, w.2, omega (arith, w.3), w.4, w.5)
          ]
          | inr s ↦ inr (n, key, omega arith, omega arith, got, s.0)
        ];
        has = λ q w. elim (cases_eq w.0 n) [
          | inl same ↦
              let at : slice_get keys y ≡ Some w.1 = sym (ap (λ j. slice_get keys (get_or numbers j 0)) same) ∙ w.4 in
              let is : key ≡ w.1 = cc in
              elim (e.has q (ap (eq q) is ∙ w.5)) [ inl m ↦ m | inr is_known ↦ absurd cc ]
          | inr ne ↦ e.stays q (i.has q (w.0, w.1, w.2, omega (arith, w.3), w.4, w.5))
        ];
      };
      order = λ o. taken_in_order keys numbers g.met.K.Eq.laws n key c.loop-place.row.items c.pick_key.new.row.items
          (omega arith) got c.in_ok-pick_key.ensures.order (c.loop-place.invariant.order o);
    }

pub returns-clause-order : goal.returns-clause-order
returns-clause-order g c = λ o.
    later_in_order c.args.keys.now c.args.numbers.now c.loop-place.place c.args.end c.loop-place.row.items (omega arith)
    (c.loop-place.invariant.order o)
