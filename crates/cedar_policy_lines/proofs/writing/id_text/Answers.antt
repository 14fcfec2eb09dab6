use Rattle.std.proofs.Common.{◌≡◌, Some, [], ◌∙◌, sym, ap, true, Bool, None, if◌then◌else◌}
use Rattle.std.specs.Option.{unwrap_or}
use Rattle.std.proofs.lemmas.Result.{IfOk-weaker}
use Rattle.cedar_ids.specs.Escape.{is_ascii, escaped, escaped_output}
use Rattle.cedar_lines.specs.laws.Ascii.{is_ascii-from_cases}
use Rattle.cedar_policy_lines.proofs.writing.id_text.Goals as goal

pub returns-then-is_ascii : goal.returns-then-is_ascii
returns-then-is_ascii c =
    let i = c.args.id.now in
    let ascii : is_ascii i ≡ true = ap is_ascii (sym c.as_ref.ensures)
    ∙ sym (is_ascii-from_cases _ _ c.is_ascii.ensures.cases) ∙ c.if-is_ascii.true in
    let known : escaped_output i ≡ Some (escaped i) = ap (λ (b : Bool). if b then Some (escaped i) else None) ascii in
    IfOk-weaker c.to_string.result _ _ (λ s k. (rw known at k)
    ∙ sym (ap (λ o. unwrap_or o []) known)) c.to_string.ensures.ok
