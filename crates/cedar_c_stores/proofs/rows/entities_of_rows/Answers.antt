use Rattle.cedar_c_stores.proofs.RowLaws.{made_next}
use Rattle.cedar_c_stores.proofs.rows.entities_of_rows.Goals as goal

pub loop-row-preserved : goal.loop-row-preserved
loop-row-preserved c =
    made_next c.loop-row.yielded c.loop-row.list.items c.push.new.self.items c.in-Some.row c.in_ok-into_entity.field-0
    c.loop-row.invariant c.in_ok-into_entity.ensures c.in_ok-push.ensures.items
