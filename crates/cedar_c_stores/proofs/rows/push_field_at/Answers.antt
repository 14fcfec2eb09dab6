use Rattle.std.proofs.Common.{sym}
use Rattle.std.specs.Prelude.{string_bytes}
use Rattle.cedar_c_stores.specs.laws.Rows.{with_field}
use Rattle.cedar_c_stores.proofs.RowLaws.{put_changed}
use Rattle.cedar_c_stores.proofs.rows.push_field_at.Goals as goal

pub returns-in-Ok-clause-ok : goal.returns-in-Ok-clause-ok
returns-in-Ok-clause-ok c =
    let row = c.in-Some.row.now in
    let at = c.in-Some.ensures.item.3 in
    let ok = c.in-Ok.ensures.ok in (
      at.0,
      ok.0,
      put_changed c.args.rows.now.items c.args.term.now.of row c.add_field.new.self
          (with_field c.args.term.now.part (string_bytes c.args.key) c.args.value) at.0 (sym (at.1 row)) ok.1,
    )
