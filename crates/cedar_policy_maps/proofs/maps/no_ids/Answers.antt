use Rattle.std.proofs.Common.{refl, arith}
use Rattle.std.specs.Map.{values_of}
use Rattle.cedar_policy_maps.proofs.Entries.{no_ids_absent, no_ids_more}
use Rattle.cedar_policy_maps.proofs.maps.no_ids.Goals as goal

pub push_empty_list-requires-clause-absent : goal.push_empty_list-requires-clause-absent
push_empty_list-requires-clause-absent g c =
    no_ids_absent c.args.bodies.now c.loop-template.template-index c.template-item.result
    (values_of c.args.known.now.entries) c.loop-template.map.entries _ c.requires.bodies
    (omega arith) c.template-item.is
    c.loop-template.invariant refl

pub loop-template-preserved : goal.loop-template-preserved
loop-template-preserved g c =
    no_ids_more c.args.bodies.now c.loop-template.template-index c.template-item.result
    (values_of c.args.known.now.entries) c.loop-template.map.entries c.push_empty_list.new.map.entries
    (omega arith) c.template-item.is
    c.loop-template.invariant c.in_ok-push_empty_list.ensures
