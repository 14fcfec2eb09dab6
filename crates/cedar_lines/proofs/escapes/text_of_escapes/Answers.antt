use Rattle.std.proofs.Common.{◌≡◌, ◌∙◌, true, ap, subst, sym, IsTrue}
use Rattle.cedar_ids.specs.Escape.{escaped, is_ascii, is_extra_escape}
use Rattle.cedar_ids.specs.laws.OwnEscapes.{own_escape_escaped, own_escape_is_ascii}
use Rattle.cedar_lines.proofs.escapes.text_of_escapes.Goals as goal

pub returns-then-is_extra_escape-clause-ascii : goal.returns-then-is_extra_escape-clause-ascii
returns-then-is_extra_escape-clause-ascii c =
    let own : is_extra_escape c.args.text.now ≡ true =
    cc (c.as_bytes.ensures.value, c.is_extra_escape.ensures, c.if-is_extra_escape.true) in
    subst (λ e. IsTrue (is_ascii e)) (sym c.in_ok-plain.ensures.ok) (own_escape_is_ascii c.args.text.now own)

pub returns-then-is_extra_escape-clause-escaped : goal.returns-then-is_extra_escape-clause-escaped
returns-then-is_extra_escape-clause-escaped c =
    let own : is_extra_escape c.args.text.now ≡ true =
    cc (c.as_bytes.ensures.value, c.is_extra_escape.ensures, c.if-is_extra_escape.true) in
    ap escaped c.in_ok-plain.ensures.ok ∙ own_escape_escaped c.args.text.now own
