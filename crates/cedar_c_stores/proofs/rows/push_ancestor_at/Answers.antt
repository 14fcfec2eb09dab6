use Rattle.std.proofs.Common.{sym}
use Rattle.cedar_c_stores.specs.laws.Rows.{with_above}
use Rattle.cedar_c_stores.proofs.RowLaws.{put_changed}
use Rattle.cedar_c_stores.proofs.rows.push_ancestor_at.Goals as goal

pub returns-clause-ok : goal.returns-clause-ok
returns-clause-ok c =
    let row = c.in-Some.row.now in
    let at = c.in-Some.ensures.item.3 in (
      at.0,
      put_changed c.args.rows.now.items c.args.place row c.insert_indirect.new.self (with_above c.args.uid) at.0
          (sym (at.1 row)) c.in_ok-insert_indirect.ensures,
    )
