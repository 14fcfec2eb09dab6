use Rattle.std.proofs.Common.{◌≡◌, ◌++◌, ◌∙◌, [], ap, sym, true}
use Rattle.std.specs.Option.{unwrap_or}
use Rattle.cedar_ids.specs.Escape.{is_extra_escape}
use Rattle.cedar_ids.specs.laws.OwnEscapes.{own_escape_output}
use Rattle.cedar_policy_lines.specs.PolicyOutput.{id_text}
use Rattle.cedar_policy_lines.proofs.writing.push_id_text.Goals as goal

pub returns-then-is_extra_escape : goal.returns-then-is_extra_escape
returns-then-is_extra_escape c =
    let id = c.args.id.now in
    let own : c.as_bytes-own.result.now ≡ id = c.as_bytes-own.ensures.value ∙ c.as_ref.ensures in
    let is : is_extra_escape id ≡ true =
    ap is_extra_escape (sym own) ∙ sym c.is_extra_escape.ensures ∙ c.if-is_extra_escape.true in
    let same : id_text id ≡ id = ap (λ o. unwrap_or o []) (own_escape_output id is) in
    c.in_ok-extend_from_slice.ensures.items ∙ ap (λ t. c.args.out.now.items ++ t) (own ∙ sym same)
