use Rattle.std.proofs.Common.{◌∙◌, ap, [], ◌∷◌, ◌++◌}
use Rattle.std.specs.Map.{lookup}
use Rattle.indexmap.proofs.CallerLemmas.{insert_entry-new}
use Rattle.cedar_ids.specs.Texts.{same_text}
use Rattle.cedar_alloc_failure_policies_tests.proofs.tests.raw.put.Goals as goal

pub returns : goal.returns
returns g c =
    (rw c.unwrap.ensures at c.insert.ensures.entries)
    ∙ insert_entry-new same_text c.reserve.new.self c.args.key c.args.value
    (ap (lookup (same_text c.args.key)) c.in_ok-reserve.ensures.entries ∙ c.requires)
    ∙ ap (λ es. es ++ (c.args.key, c.args.value) ∷ []) c.in_ok-reserve.ensures.entries
