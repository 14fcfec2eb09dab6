-- Lists of calls on a policy set, as steps between policy sets.
use Rattle.std.specs.Prelude.{◌≡◌, List, [], ◌∷◌, Result, IfErr, IsErr}
use Rattle.cedar_binding.specs.Views.{env_of}
use Rattle.cedar_policy_maps.specs.PolicySets.{SetParts, policy_binding, Template}
use Rattle.cedar_policy_merge.specs.Merge.{Merges}
use Rattle.cedar_policy_set.specs.Refusals.{Steps, RemovesFromSet, set_error_of, linking_error_of, unlinking_error_of}
use Rattle.cedar_policy_set.specs.Refusals.{removal_error_of, template_removal_error_of}
use Rattle.cedar_policy_set.specs.Steps.{add_static_step, add_template_step, add_step, link_step, unlink_step}
use Rattle.cedar_policy_set.specs.Steps.{Refusal, remove_static_step, remove_template_step}
use Rattle.cedar_replay.specs.declared.call.Answer.{Answer}
use Rattle.cedar_replay.specs.declared.call.Answer.TheVariants as answers
use Rattle.cedar_replay.specs.declared.call.PolicyCall.{PolicyCall}
use Rattle.cedar_replay.specs.declared.call.PolicyCall.TheVariants as calls

-- Whether a result is an error only if the step is an error. Then `Memory` is impossible if the step succeeds.
abbrev pub IsRefusedByStep : {A E B : Type 0} → Result A E → Result B Refusal → Type 0
IsRefusedByStep r step = IfErr r (λ e. IsErr step)

-- Whether a call has this result and changes the policy set `old` to `new`, for every builder of hashers. Each call
-- except a merge follows its step. `Memory` leaves the set unchanged. A call that removes a link or a static policy
-- does not fail with `Memory` if its step succeeds. A result in the variant of another call is impossible.
abbrev pub IsStep : {S H : Type 0} → PolicyCall S H → Answer S H → SetParts → SetParts → Type 0
IsStep (calls.AddStatic s) (answers.AddStatic r) old new = Steps set_error_of r old new (add_static_step old s)
IsStep (calls.AddTemplate t) (answers.AddTemplate r) old new = Steps set_error_of r old new (add_template_step old t)
IsStep (calls.Add p) (answers.Add r) old new = Steps set_error_of r old new (add_step old p)
IsStep (calls.Link t l e) (answers.Link r) old new = Steps linking_error_of r old new (link_step old t l (env_of e))
IsStep (calls.Unlink i) (answers.Unlink r) old new =
    RemovesFromSet unlinking_error_of policy_binding r old new i (unlink_step old i)
    × IsRefusedByStep r (unlink_step old i)
IsStep (calls.RemoveStatic i) (answers.RemoveStatic r) old new =
    RemovesFromSet removal_error_of policy_binding r old new i (remove_static_step old i)
    × IsRefusedByStep r (remove_static_step old i)
IsStep (calls.RemoveTemplate i) (answers.RemoveTemplate r) old new =
    RemovesFromSet template_removal_error_of Template r old new i (remove_template_step old i)
IsStep (calls.Merge other rename) (answers.Merge r) old new = Merges (λ m. m.entries) r old other rename new
IsStep c a old new = ⊥

-- Whether the calls have these results, each applied to the policy set after the call before it, and the last set is
-- `new`.
abbrev pub AreSteps : {S H : Type 0} → List (PolicyCall S H) → List (Answer S H) → SetParts → SetParts → Type 0
AreSteps [] [] old new = new ≡ old
AreSteps [] (a ∷ rest) old new = ⊥
AreSteps (c ∷ cs) [] old new = ⊥
AreSteps (c ∷ cs) (a ∷ rest) old new = (b : SetParts) × IsStep c a old b × AreSteps cs rest b new
