use Rattle.std.proofs.Common.{◌≡◌, length}
use Rattle.cedar_graph.proofs.order.has_incoming.Given as goal

abbrev pub invariant-loop-number : goal.invariant-loop-number
invariant-loop-number l = length l.led.items ≡ l.count
