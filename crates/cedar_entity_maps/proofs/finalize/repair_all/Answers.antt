use Rattle.std.proofs.Common.{sym, subst}
use Rattle.cedar_ids.specs.UidOf.{same_uid}
use Rattle.cedar_graph.specs.Faults.{NamesCycleAt}
use Rattle.cedar_graph.specs.Graph.{graph_of}
use Rattle.cedar_entity_maps.specs.laws.EntityMap.{held_map}
use Rattle.cedar_entity_maps.specs.laws.Rows.{also, where_not, where_so}
use Rattle.cedar_entity_maps.specs.Affected.{IsAcyclicAt, IsRepairOf}
use Rattle.cedar_entity_maps.proofs.Closures.{acyclic_whole, node_edges, repair_of_whole, touched_named}
use Rattle.cedar_entity_maps.proofs.EditEnds.{repair_told}
use Rattle.cedar_entity_maps.proofs.finalize.repair_all.Goals as goal

pub returns-in_err-close_dag-clause-ends : goal.returns-in_err-close_dag-clause-ends
returns-in_err-close_dag-clause-ends g c affected all =
    let m = c.args.entities.now in
    let t = c.in_err-close_dag.field-0.0 in
    repair_told m c.args.enforce_dag affected _ c.from_residual.result t c.from_residual.ensures.1
    (subst (λ b. NamesCycleAt b affected (graph_of same_uid node_edges m) t) (sym c.if-enforce_dag.true)
    (touched_named m affected all _ t c.in_err-close_dag.ensures.closes.err))

pub returns-then-enforce_dag-clause-ends : goal.returns-then-enforce_dag-clause-ends
returns-then-enforce_dag-clause-ends g c affected all =
    let e = c.in_ok-close_dag.ensures in
    let m = c.args.entities.now in
    let n = c.close_dag.new.nodes in
    record {
      ok = also c.args.enforce_dag (IsRepairOf affected (held_map m) (held_map n)) (IsAcyclicAt affected (held_map m))
          (repair_of_whole m n affected all e.keeps.kept e.closes.adds.stays e.closes.adds.only e.closes.closed)
          (where_so c.args.enforce_dag _ (acyclic_whole m affected e.closes.ok));
      err = tt;
      named = tt;
    }

pub returns-in_err-compute_tc-clause-ends : goal.returns-in_err-compute_tc-clause-ends
returns-in_err-compute_tc-clause-ends g c affected all =
    let m = c.args.entities.now in
    let t = c.in_err-compute_tc.field-0.0 in
    repair_told m c.args.enforce_dag affected _ c.from_residual-in_err-compute_tc.result t
    c.from_residual-in_err-compute_tc.ensures.1
    (subst (λ b. NamesCycleAt b affected (graph_of same_uid node_edges m) t) (sym c.if-enforce_dag.false)
    (touched_named m affected all _ t c.in_err-compute_tc.ensures.closes.err))

pub returns-clause-ends : goal.returns-clause-ends
returns-clause-ends g c affected all =
    let e = c.in_ok-compute_tc.ensures in
    let m = c.args.entities.now in
    let n = c.compute_tc.new.nodes in
    record {
      ok = also c.args.enforce_dag (IsRepairOf affected (held_map m) (held_map n)) (IsAcyclicAt affected (held_map m))
          (repair_of_whole m n affected all e.keeps.kept e.closes.adds.stays e.closes.adds.only e.closes.closed)
          (where_not c.args.enforce_dag _ c.if-enforce_dag.false);
      err = tt;
      named = tt;
    }
