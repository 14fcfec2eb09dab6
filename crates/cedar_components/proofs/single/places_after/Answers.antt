use Rattle.std.proofs.Common.{◌≡◌, ◌+◌, ◌-◌, ◌<◌, ◌≤◌, length, get_or, arith, subst, ◌∙◌, length-set}
use Rattle.cedar_components.proofs.OneMember.{single_within, single_stands}
use Rattle.cedar_components.proofs.single.places_after.Goals as goal

pub index_mut-requires : goal.index_mut-requires
index_mut-requires c =
    let inside = c.requires.inside c.loop-place.place c.loop-place-test.true in
    omega (arith, inside, c.loop-place.invariant.len)

pub loop-place-preserved : goal.loop-place-preserved
loop-place-preserved c =
    let i = c.loop-place.invariant in
    let n = c.args.n in
    let order = c.args.order.now in
    let place = c.loop-place.place in
    let component = c.loop-place.component.items in
    let bound : place < length order = c.loop-place-test.true in
    let inside : get_or order place 0 < n = c.requires.inside place bound in
    record {
      len = length-set component (get_or order place 0) (place + 1) ∙ i.len;
      within = single_within n order component place i.len inside bound i.within;
      stands = single_stands n order component place i.len inside bound i.stands;
    }

pub returns : goal.returns
returns c =
    let i = c.loop-place.invariant in
    let order = c.args.order.now in
    let component = c.loop-place.component.items in
    record {
      len = i.len;
      within = λ x h.
          let m = c.requires.all x h in
          subst (λ z. (0 < get_or component z 0) × (get_or component z 0 ≤ length order)) m.2
          (i.within m.0 (omega (arith, m.1, c.loop-place-test.false)));
      stands = λ x h.
          let m = c.requires.all x h in
          subst (λ z. get_or order (get_or component z 0 - 1) 0 ≡ z) m.2
          (i.stands m.0 (omega (arith, m.1, c.loop-place-test.false)));
    }
