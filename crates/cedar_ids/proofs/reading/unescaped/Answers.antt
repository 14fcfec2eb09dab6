use Rattle.std.proofs.Common.{◌∙◌, sym, ap}
use Rattle.std.proofs.lemmas.Bool.{false≢true}
use Rattle.std.specs.String.{string_bytes}
use Rattle.cedar_ids.specs.laws.Decode.{decode}
use Rattle.cedar_ids.proofs.EidTexts.{eid_no_text, eid_then, eid_else}
use Rattle.cedar_ids.proofs.reading.unescaped.Goals as goal

pub returns-in_default : goal.returns-in_default
returns-in_default c =
    eid_no_text c.in_ok-decoded.field-0.items c.args.text.now (c.in_ok-decoded.ensures
    ∙ ap decode c.as_bytes.ensures.value)
    (λ u. false≢true (c.in_default.ensures.succeeds u))

pub returns-then-branch : goal.returns-then-branch
returns-then-branch c =
    eid_then (string_bytes c.in-Ok.eid) c.args.text.now (ap (λ v. v.items) c.in-Ok.ensures.ok ∙ c.in_ok-decoded.ensures
    ∙ ap decode c.as_bytes.ensures.value)
    (λ a. sym c.if-branch.true ∙ (rw c.as_str.ensures.value at c.in_ok-is_escape_of.ensures) a)

pub returns-else-branch : goal.returns-else-branch
returns-else-branch c =
    eid_else (string_bytes c.in-Ok.eid) c.args.text.now (ap (λ v. v.items) c.in-Ok.ensures.ok ∙ c.in_ok-decoded.ensures
    ∙ ap decode c.as_bytes.ensures.value)
    (λ a. sym c.if-branch.false ∙ (rw c.as_str.ensures.value at c.in_ok-is_escape_of.ensures) a)
