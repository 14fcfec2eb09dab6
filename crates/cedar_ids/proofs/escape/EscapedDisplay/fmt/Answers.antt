use Rattle.std.proofs.Common.{rules, ◌≡◌, true, sym, ap, ◌∙◌}
use Rattle.cedar_ids.specs.Escape.{is_extra_escape}
use Rattle.cedar_ids.specs.laws.OwnEscapes.{own_escape_output}
use Rattle.cedar_ids.proofs.escape.EscapedDisplay.fmt.Goals as goal

pub returns-then-is_extra_escape-clause-writes : goal.returns-then-is_extra_escape-clause-writes
returns-then-is_extra_escape-clause-writes g c =
    let h : is_extra_escape c.args.self.now.0.now ≡ true =
    sym (c.is_extra_escape.ensures ∙ ap is_extra_escape c.as_bytes.ensures.value) ∙ c.if-is_extra_escape.true in
    rw (own_escape_output c.args.self.now.0.now h) (search rules)
