use Rattle.std.proofs.Common.{arith}
use Rattle.cedar_graph.proofs.Orders.{one_more}
use Rattle.cedar_graph.proofs.order.parts_of.Goals as goal

pub loop-number-preserved : goal.loop-number-preserved
loop-number-preserved g c = record {
  within = omega arith;
  keys = c.in_ok-put.ensures.keys;
  all = one_more c.loop-number.number c.loop-number.parts.led.items c.loop-number.parts.others.items
      c.put.new.parts.led.items c.put.new.parts.others.items c.loop-number.invariant.all c.in_ok-put.ensures.all;
}
