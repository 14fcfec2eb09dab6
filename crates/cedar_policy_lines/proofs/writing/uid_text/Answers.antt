use Rattle.std.proofs.Common.{◌≡◌, Some, [], ◌∙◌, sym, ap, true, Bool, None, if◌then◌else◌}
use Rattle.std.specs.Option.{unwrap_or}
use Rattle.std.proofs.lemmas.Result.{IfOk-weaker}
use Rattle.cedar_ids.specs.Escape.{is_ascii}
use Rattle.cedar_ids.specs.Printed.{printed_uid, uid_output}
use Rattle.cedar_ids.specs.UidOf.{uid_parts}
use Rattle.cedar_lines.specs.laws.Ascii.{is_ascii-from_cases}
use Rattle.cedar_policy_lines.proofs.writing.uid_text.Goals as goal

pub returns-then-is_ascii : goal.returns-then-is_ascii
returns-then-is_ascii c =
    let u = uid_parts c.args.uid.now in
    let ascii : is_ascii u.eid ≡ true = ap is_ascii (sym (c.as_ref.ensures ∙ c.eid.ensures))
    ∙ sym (is_ascii-from_cases _ _ c.is_ascii.ensures.cases) ∙ c.if-is_ascii.true in
    let known : uid_output u ≡ Some (printed_uid u) =
    ap (λ (b : Bool). if b then Some (printed_uid u) else None) ascii in
    IfOk-weaker c.to_string.result _ _ (λ s k. (rw known at k)
    ∙ sym (ap (λ o. unwrap_or o []) known)) c.to_string.ensures.ok
