use Rattle.std.proofs.lemmas.Bool.{not-false, not-true}
use Rattle.std.specs.HashSet.{contains}
use Rattle.cedar_ids.specs.UidOf.{same_uid}
use Rattle.cedar_entity_maps.specs.laws.EntityMap.{held_map}
use Rattle.cedar_entity_maps.proofs.EditEnds.{ends_refused, ends_repaired, ends_taken}
use Rattle.cedar_entity_maps.proofs.finalize.finish.Goals as goal

pub returns-then-not-row-clause-ends : goal.returns-then-not-row-clause-ends
returns-then-not-row-clause-ends g c =
    ends_taken c.args.row (contains same_uid c.args.affected.now) (held_map c.args.entities.now)
    c.check_if.result (not-true c.args.row.repairs c.if-not-row.true) c.check_if.ensures.ok c.check_if.ensures.err

pub returns-in_err-repair_affected-clause-ends : goal.returns-in_err-repair_affected-clause-ends
returns-in_err-repair_affected-clause-ends g c =
    ends_refused c.args.row (contains same_uid c.args.affected.now) (held_map c.args.entities.now) _
    (held_map c.repair_affected.new.entities) _ c.in_err-repair_affected.field-0.0
    (not-false c.args.row.repairs c.if-not-row.false) c.from_residual.ensures.1
    c.in_err-repair_affected.ensures.ends

pub returns-clause-ends : goal.returns-clause-ends
returns-clause-ends g c =
    ends_repaired c.args.row (contains same_uid c.args.affected.now) (held_map c.args.entities.now)
    (held_map c.repair_affected.new.entities) c.check_if-2.result _ (not-false c.args.row.repairs c.if-not-row.false)
    c.in_ok-repair_affected.ensures.ends
    c.check_if-2.ensures.ok c.check_if-2.ensures.err
