use Rattle.std.proofs.lemmas.Result.{err_from_is_err_and}
use Rattle.std.specs.Prelude.{string_bytes}
use Rattle.cedar_c_stores.proofs.RowLaws.{key_out, place_out, term_put, value_out}
use Rattle.cedar_c_stores.proofs.rows.push_term.Goals as goal

pub returns-in-Ok-clause-ok : goal.returns-in-Ok-clause-ok
returns-in-Ok-clause-ok c =
    let ok = c.in-Ok.ensures.ok in
    term_put c.args.text.now c.args.nodes.now c.args.term.now (string_bytes c.in_ok-key.key) c.in_ok-value.value
    c.args.rows.now.items c.push_field_at.new.rows.items c.in_ok-key.ensures c.in_ok-value.ensures ok.0 ok.1 ok.2
