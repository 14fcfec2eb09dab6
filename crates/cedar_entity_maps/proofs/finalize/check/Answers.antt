use Rattle.cedar_entity_maps.proofs.Closures.{closed_seen, closed_told, refused_as}
use Rattle.cedar_entity_maps.proofs.finalize.check.Goals as goal

pub returns-in_err-enforce_tc_and_dag-clause-err : goal.returns-in_err-enforce_tc_and_dag-clause-err
returns-in_err-enforce_tc_and_dag-clause-err g c =
    refused_as _ c.from_residual.result c.in_err-enforce_tc_and_dag.field-0.0 c.from_residual.ensures.1
    (closed_told c.args.entities.now c.in_err-enforce_tc_and_dag.field-0.0 c.in_err-enforce_tc_and_dag.ensures.err)

pub returns-clause-ok : goal.returns-clause-ok
returns-clause-ok g c = closed_seen c.args.entities.now c.in_ok-enforce_tc_and_dag.ensures.ok
