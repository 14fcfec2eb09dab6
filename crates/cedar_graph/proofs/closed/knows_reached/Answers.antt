use Rattle.std.proofs.Common.{◌≡◌, ◌<◌, ℕ, arith, refl, sym, subst, length, get_or}
use Rattle.cedar_graph.specs.laws.Readings.{IsArc}
use Rattle.cedar_graph.proofs.Rows.{part_place}
use Rattle.cedar_graph.proofs.closed.knows_reached.Goals as goal

pub returns : goal.returns
returns g c =
    let read = c.args.read.now in
    let reached = c.args.reached.now in
    λ _ y goes.
    let at = subst (λ v. (n : ℕ) × (n < length v) × (get_or v n 0 ≡ y)) (sym c.listed_for-y-items.ensures.listed)
    (part_place g.K.PartialEq.eq read.keys.keys (IsArc read) reached.component.items reached.start.items
    reached.lists.items c.requires.reach c.args.x c.requires.within _ _ refl refl y goes) in
    subst (λ v. get_or c.args.known.now.marks.items v 0 ≡ c.args.known.now.mark) at.2
    (c.loop-y.invariant.known at.0 (omega (arith, at.1, c.loop-y-test.false)))
