use Rattle.std.proofs.Common.{◌∙◌}
use Rattle.cedar_c_stores.specs.Contents.{from_lists_by}
use Rattle.cedar_c_stores.proofs.RowLaws.{laid_of, unlaid_by}
use Rattle.cedar_c_stores.proofs.from_lists.entities_from_lists.Goals as goal

pub returns-in-Ok : goal.returns-in-Ok
returns-in-Ok c =
    laid_of (from_lists_by c.args.lists c.args.content) c.in_ok-uids_of.field-0.items c.deref.result.now c.in-Ok.rows.items _
    c.in_ok-uids_of.ensures (c.deref.ensures.value ∙ c.in_ok-uids.ensures) c.in-Ok.ensures
    c.in_ok-entities_of_rows-in-Ok.ensures

pub returns : goal.returns
returns c =
    unlaid_by (from_lists_by c.args.lists c.args.content) c.in_ok-uids_of.field-0.items c.deref.result.now c.in-Err.reason
    c.in_ok-uids_of.ensures (c.deref.ensures.value ∙ c.in_ok-uids.ensures) c.in-Err.ensures
