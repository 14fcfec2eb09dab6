use Rattle.cedar_c_stores.proofs.RowLaws.{value_read}
use Rattle.cedar_c_stores.proofs.rows.value_at.Goals as goal

pub returns-in-Ok : goal.returns-in-Ok
returns-in-Ok c =
    value_read c.args.text.now c.args.nodes.now c.args.term.now c.in-Ok.found.now c.partial_value_of.result
    c.in-Ok.ensures.0 c.in-Ok.ensures.1 c.partial_value_of.ensures
