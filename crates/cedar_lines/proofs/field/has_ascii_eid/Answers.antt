use Rattle.std.proofs.Common.{◌∙◌, ap}
use Rattle.cedar_ids.specs.Escape.{is_ascii}
use Rattle.cedar_lines.specs.laws.Ascii.{is_ascii-from_cases}
use Rattle.cedar_lines.proofs.field.has_ascii_eid.Goals as goal

pub returns : goal.returns
returns c = is_ascii-from_cases _ _ c.is_ascii.ensures.cases ∙ ap is_ascii c.as_ref.ensures ∙ ap is_ascii c.eid.ensures
