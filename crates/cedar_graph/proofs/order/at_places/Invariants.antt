use Rattle.std.proofs.Common.{◌≡◌, map, take, get_or}
use Rattle.cedar_graph.proofs.order.at_places.Given as goal

abbrev pub invariant-loop-place : goal.invariant-loop-place
invariant-loop-place l = l.order.items ≡ map (λ p. get_or l.numbers p 0) (take l.place-index l.places)
