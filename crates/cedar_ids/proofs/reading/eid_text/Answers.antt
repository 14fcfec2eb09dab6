use Rattle.std.proofs.Common.{◌≡◌, true, sym, ap, ◌∙◌}
use Rattle.cedar_ids.specs.Escape.{is_extra_escape}
use Rattle.cedar_ids.specs.laws.Eids.{ascii_text}
use Rattle.cedar_ids.specs.laws.OwnEscapes.{own_escape_eid}
use Rattle.cedar_ids.proofs.reading.eid_text.Goals as goal

pub returns-in_ok-eid : goal.returns-in_ok-eid
returns-in_ok-eid c =
    let h : is_extra_escape c.args.text.now ≡ true =
    sym (c.is_extra_escape.ensures ∙ ap is_extra_escape c.as_bytes.ensures.value) ∙ c.if-is_extra_escape.true in
    ap ascii_text c.in_ok-eid.ensures.ok ∙ own_escape_eid c.args.text.now h
