use Rattle.std.proofs.Common.{sym, subst}
use Rattle.std.specs.HashSet.{contains}
use Rattle.cedar_ids.specs.UidOf.{same_uid}
use Rattle.cedar_graph.specs.Faults.{NamesCycleAt}
use Rattle.cedar_graph.specs.Graph.{graph_of}
use Rattle.cedar_entity_maps.specs.laws.EntityMap.{held_map}
use Rattle.cedar_entity_maps.specs.laws.Rows.{also, where_not, where_so}
use Rattle.cedar_entity_maps.specs.Affected.{IsAcyclicAt, IsRepairOf}
use Rattle.cedar_entity_maps.proofs.Closures.{acyclic_of, node_edges, repair_of}
use Rattle.cedar_entity_maps.proofs.EditEnds.{repair_told}
use Rattle.cedar_entity_maps.proofs.finalize.close_affected.Goals as goal

pub returns-in_err-repair_dag-clause-ends : goal.returns-in_err-repair_dag-clause-ends
returns-in_err-repair_dag-clause-ends g c =
    let m = c.args.entities.now in
    let fix = contains same_uid c.args.affected.now in
    let t = c.in_err-repair_dag.field-0.0 in
    repair_told m c.args.enforce_dag fix _ c.from_residual.result t c.from_residual.ensures.1
    (subst (λ b. NamesCycleAt b fix (graph_of same_uid node_edges m) t) (sym c.if-enforce_dag.true)
    c.in_err-repair_dag.ensures.repairs.err)

pub returns-then-enforce_dag-clause-ends : goal.returns-then-enforce_dag-clause-ends
returns-then-enforce_dag-clause-ends g c =
    let e = c.in_ok-repair_dag.ensures in
    let m = c.args.entities.now in
    let fix = contains same_uid c.args.affected.now in
    let n = c.repair_dag.new.nodes in
    record {
      ok = also c.args.enforce_dag (IsRepairOf fix (held_map m) (held_map n)) (IsAcyclicAt fix (held_map m))
          (repair_of m n fix e.keeps.kept e.repairs.alone e.repairs.adds.stays e.repairs.adds.only
          (λ t _. e.repairs.closed t))
          (where_so c.args.enforce_dag _ (acyclic_of m fix e.repairs.ok));
      err = tt;
      named = tt;
    }

pub returns-in_err-repair_tc-clause-ends : goal.returns-in_err-repair_tc-clause-ends
returns-in_err-repair_tc-clause-ends g c =
    let m = c.args.entities.now in
    let fix = contains same_uid c.args.affected.now in
    let t = c.in_err-repair_tc.field-0.0 in
    repair_told m c.args.enforce_dag fix _ c.from_residual-in_err-repair_tc.result t
    c.from_residual-in_err-repair_tc.ensures.1
    (subst (λ b. NamesCycleAt b fix (graph_of same_uid node_edges m) t) (sym c.if-enforce_dag.false)
    c.in_err-repair_tc.ensures.repairs.err)

pub returns-clause-ends : goal.returns-clause-ends
returns-clause-ends g c =
    let e = c.in_ok-repair_tc.ensures in
    let m = c.args.entities.now in
    let fix = contains same_uid c.args.affected.now in
    let n = c.repair_tc.new.nodes in
    record {
      ok = also c.args.enforce_dag (IsRepairOf fix (held_map m) (held_map n)) (IsAcyclicAt fix (held_map m))
          (repair_of m n fix e.keeps.kept e.repairs.alone e.repairs.adds.stays e.repairs.adds.only e.repairs.closed)
          (where_not c.args.enforce_dag _ c.if-enforce_dag.false);
      err = tt;
      named = tt;
    }
