-- Empty differences.
use Rattle.std.specs.Prelude.{◌≡◌, []}
use Rattle.cedar_policy_diff.specs.Diff.{SetDiff}

-- Whether a difference lists no templates.
abbrev pub HasNoTemplates : SetDiff → Type 0
HasNoTemplates d = (d.removed_templates ≡ []) × (d.added_templates ≡ []) × (d.changed_templates ≡ [])

-- Whether a difference lists no policies.
abbrev pub HasNoPolicies : SetDiff → Type 0
HasNoPolicies d = (d.removed ≡ []) × (d.added ≡ []) × (d.changed ≡ []) × (d.relinked ≡ [])
