use Rattle.std.proofs.Common.{◌≡◌, ◌<◌, Some, arith, get_or, sym, ap, ◌∙◌, length, slice_get}
use Rattle.std.proofs.lemmas.Option.{slice_get-get_or}
use Rattle.std.proofs.lemmas.Grind.{common_steps}
use Rattle.cedar_graph.proofs.InOrder.{taken_in_order}
use Rattle.cedar_graph.proofs.Runs.{key_taken}
use Rattle.cedar_graph.proofs.close.pick_row.Goals as goal

pub loop-place-preserved : goal.loop-place-preserved
loop-place-preserved g c =
    let known = c.args.known.now in
    let n = c.loop-place.place in
    let numbers = c.args.numbers.now in
    let keys = c.args.keys.now in
    let key = c.index-keys-y.result in
    let y = get_or numbers n 0 in
    let y_in : y < length keys = c.requires.numbers n (omega arith) in
    let got : slice_get keys y ≡ Some key = slice_get-get_or keys y key y_in ∙ ap Some (sym c.index-keys-y.is) in
    record {
      row = key_taken g.met.K.Eq.laws keys c.requires.unique numbers known n key _ c.loop-place.row.items
          c.pick_key.new.row.items c.loop-place.invariant.row got c.in_ok-pick_key.ensures.taken
          (λ h. grind (arith, common_steps)) (λ h mark. grind (arith, common_steps));
      order = taken_in_order keys numbers g.met.K.Eq.laws n key c.loop-place.row.items c.pick_key.new.row.items
          (omega arith) got c.in_ok-pick_key.ensures.order c.loop-place.invariant.order;
    }
