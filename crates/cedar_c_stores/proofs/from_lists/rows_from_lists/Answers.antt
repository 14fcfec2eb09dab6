use Rattle.std.proofs.Common.{inl}
use Rattle.std.proofs.lemmas.Result.{err_from_is_err_and}
use Rattle.cedar_c_stores.specs.Contents.{from_lists_by}
use Rattle.cedar_c_stores.proofs.RowLaws.{said_by, unsaid_above, unsaid_terms}
use Rattle.cedar_c_stores.proofs.from_lists.rows_from_lists.Goals as goal

pub returns : goal.returns
returns c =
    said_by c.args.uids.now (from_lists_by c.args.lists c.args.content) c.in_ok-rows.rows.items c.push_ancestors_of_rows.new.rows.items
    c.push_terms.new.rows.items c.in_ok-rows.ensures c.in_ok-push_ancestors_of_rows.ensures.ok c.in_ok-push_terms.ensures.ok

pub returns-in_err-push_ancestors_of_rows : goal.returns-in_err-push_ancestors_of_rows
returns-in_err-push_ancestors_of_rows c =
    let p = err_from_is_err_and c.from_residual-in_err-push_ancestors_of_rows.result c.from_residual-in_err-push_ancestors_of_rows.ensures.1 in
    rw (p.1, p.2)
    (unsaid_above c.args.uids.now (from_lists_by c.args.lists c.args.content) c.in_ok-rows.rows.items _ c.in_ok-rows.ensures
    c.in_err-push_ancestors_of_rows.ensures.err)

pub returns-in_err-push_terms : goal.returns-in_err-push_terms
returns-in_err-push_terms c =
    let p = err_from_is_err_and c.from_residual-in_err-push_terms.result c.from_residual-in_err-push_terms.ensures.1 in
    rw (p.1, p.2)
    (unsaid_terms c.args.uids.now (from_lists_by c.args.lists c.args.content) c.in_ok-rows.rows.items
    c.push_ancestors_of_rows.new.rows.items _ c.in_ok-rows.ensures c.in_ok-push_ancestors_of_rows.ensures.ok c.in_err-push_terms.ensures.err)
