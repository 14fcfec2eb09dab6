-- The addition of bodies from a caller's lists to a policy set.
use Rattle.std.specs.Prelude.{◌⊎◌, ℕ, List, [], ◌∷◌, Result, Err}
use Rattle.cedar_terms.specs.declared.slot.SlotId.{SlotId}
use Rattle.cedar_body.specs.Bodies.{BodyParts, body_slots}
use Rattle.cedar_policy_maps.specs.PolicySets.{SetParts}
use Rattle.cedar_policy_set.specs.Steps.{Refusal, not_static, add_static_step, add_template_step}
use Rattle.cedar_c_lists.specs.Stops.{IsStopped}
use Rattle.cedar_c_lists.specs.declared.reason.Reason.{Reason}
use Rattle.cedar_c_bodies.specs.Bodies.{BodyInput, IsBodyOfInput, IsInvalidInput}
use Rattle.cedar_c_sets.specs.Sets.{KeepsTexts, AppliesStep}
use Rattle.cedar_c_sets.specs.declared.set_state.SetState.{SetState}

-- The addition of a body as a static policy. If it has slots, the result is an error.
abbrev pub static_step_with : List SlotId → SetParts → BodyParts → Result SetParts Refusal
static_step_with [] b t = add_static_step b t
static_step_with (s ∷ ss) b t = Err (not_static t.id)

-- The addition of a body as a static policy, by its slots.
abbrev pub static_step : SetParts → BodyParts → Result SetParts Refusal
static_step b t = static_step_with (body_slots t) b t

-- Holds for the effect of adding a body from a caller's lists by a step. Either the input is invalid and nothing
-- changes, or the step is made on the decoded body.
abbrev pub InsertsBody : {A B H : Type 0} → (SetParts → BodyParts → Result SetParts Refusal) → List ℕ → BodyInput
    → Result A Reason → SetState B H → SetState B H → Type 0
InsertsBody step id G r i j =
    IsStopped (IsInvalidInput id G) r i j
    ⊎ ((b : BodyParts) × IsBodyOfInput id G b × AppliesStep (step i.set b) r i j × KeepsTexts r i j)

-- Holds for the effect of adding a static policy from a caller's lists.
abbrev pub AddsStaticWith : {A B H : Type 0} → List ℕ → BodyInput → Result A Reason → SetState B H → SetState B H → Type 0
AddsStaticWith id G r i j = InsertsBody static_step id G r i j

-- Holds for the effect of adding a template from a caller's lists.
abbrev pub AddsTemplateWith : {A B H : Type 0} → List ℕ → BodyInput → Result A Reason → SetState B H → SetState B H → Type 0
AddsTemplateWith id G r i j = InsertsBody add_template_step id G r i j
