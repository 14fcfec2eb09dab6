-- The effect of the commands on the two policy sets, and their output.
use Rattle.std.specs.Prelude.{◌≡◌, ◌⊎◌, ℕ, List, [], ◌∷◌, ◌++◌, Bool, true, false, None, Result, Ok, Err, codes}
use Rattle.std.specs.Prelude.{if◌then◌else◌}
use Rattle.std.specs.List.{flat_map}
use Rattle.std.specs.Option.{unwrap_or}
use Rattle.cedar_ids.specs.Escape.{escaped_output}
use Rattle.cedar_ids.specs.Uid.{UidParts}
use Rattle.cedar_ids.specs.Printed.{uid_output}
use Rattle.cedar_lines.specs.Lines.{written_line}
use Rattle.cedar_terms.specs.declared.slot.SlotId.TheVariants.{Principal, Action, Resource}
use Rattle.cedar_binding.specs.Bindings.{is_listed_id}
use Rattle.cedar_scope.specs.Scope.{Constraint, any, equals, to_slot}
use Rattle.cedar_action.specs.Rules.{ActionRule, any_action, just_slot}
use Rattle.cedar_body.specs.Bodies.{BodyParts}
use Rattle.cedar_body.specs.declared.effect.Effect.{Effect}
use Rattle.cedar_body.specs.declared.effect.Effect.TheVariants.{Permit}
use Rattle.cedar_policy_maps.specs.PolicySets.{SetParts, Binding, without_id}
use Rattle.cedar_policy_merge.specs.Merge.{conflicts, merged, new_id, IsRenaming, body_ids, policy_ids}
use Rattle.cedar_policy_set.specs.Steps.{Refusal, occupied, no_body, no_such_template, arity, not_an_action}
use Rattle.cedar_policy_set.specs.Steps.{id_conflict, no_link, not_a_link, no_template, with_links, not_a_template}
use Rattle.cedar_policy_set.specs.Steps.{no_static, not_static, add_static_step, add_template_step, link_step}
use Rattle.cedar_policy_set.specs.Steps.{unlink_step}
use Rattle.cedar_policy_lines.specs.TwoSets.{TwoSets, with_current, swapped}
use Rattle.cedar_policy_lines.specs.PolicyCommand.{PolicyCommand, Static, Template, Link, Unlink, Other, Merge, Ids}
use Rattle.cedar_policy_lines.specs.PolicyCommand.{slots_of_word, IsPolicyCommand}
use Rattle.cedar_policy_lines.specs.declared.field.TemplateSlots.{TemplateSlots}

-- ---- Texts

-- The escaped text of an id, or the empty text if the id is not ASCII. Ids from lines are always ASCII.
abbrev pub id_text : List ℕ → List ℕ
id_text i = unwrap_or (escaped_output i) []

-- A tab and the text of an id.
abbrev pub id_field : List ℕ → List ℕ
id_field i = 9 ∷ id_text i

-- The line `ok` of a successful command.
abbrev pub ok_line : List ℕ
ok_line = written_line (codes "ok")

-- The text of a uid, or the empty text if the uid is not ASCII. Uids from lines are always ASCII.
abbrev pub uid_text : UidParts → List ℕ
uid_text u = unwrap_or (uid_output u) []

-- The text of the reason why a command fails. No command fails for a reason with the empty text.
abbrev pub refusal_words : Refusal → List ℕ
refusal_words (occupied i) = codes "occupied " ++ id_text i
refusal_words (id_conflict i) = codes "occupied " ++ id_text i
refusal_words (no_such_template i) = codes "no template " ++ id_text i
refusal_words (arity u x) = codes "arity"
refusal_words (not_an_action u) = codes "not an action " ++ uid_text u
refusal_words (no_link i) = codes "no link " ++ id_text i
refusal_words (not_a_link i) = codes "not a link " ++ id_text i
refusal_words (no_body i) = []
refusal_words (no_template i) = []
refusal_words (with_links i) = []
refusal_words (not_a_template i) = []
refusal_words (no_static i) = []
refusal_words (not_static i) = []

-- The line of a failed command. Example: `refused: occupied policy0`.
abbrev pub refused_line : Refusal → List ℕ
refused_line r = written_line (codes "refused: " ++ refusal_words r)

-- A renamed id and its new id, each after a tab.
abbrev pub renamed_fields : List ℕ × List ℕ → List ℕ
renamed_fields p = id_field p.0 ++ id_field p.1

-- The line of a successful merge: `ok`, and then each renamed id with its new id.
abbrev pub merged_line : List (List ℕ × List ℕ) → List ℕ
merged_line r = written_line (codes "ok" ++ flat_map renamed_fields r)

-- The two lines with the ids of a set: the ids of the bodies, and the ids of the policies, each in their order.
abbrev pub ids_lines : SetParts → List ℕ
ids_lines b =
    written_line (codes "bodies" ++ flat_map id_field (body_ids b))
    ++ written_line (codes "policies" ++ flat_map id_field (policy_ids b))

-- ---- Bodies

-- The body of a static policy without constraints.
abbrev pub static_body : List ℕ → Effect → BodyParts
static_body i e = record {
  id = i;
  annotations = [];
  effect = e;
  principal = any;
  action = any_action;
  resource =
      any;
  clause = None;
}

-- The constraint that the principal or resource equals its slot, or no constraint if there is no slot.
abbrev pub slot_constraint : Bool → Constraint
slot_constraint b = if b then equals to_slot else any

-- The constraint that the action equals its slot, or no constraint if there is no slot.
abbrev pub slot_rule : Bool → ActionRule
slot_rule b = if b then just_slot else any_action

-- The body of a template whose only constraints are the named slots.
abbrev pub slotted_body : List ℕ → Effect → Bool → Bool → Bool → BodyParts
slotted_body i e on_principal on_action on_resource = record {
  id = i;
  annotations = [];
  effect = e;
  principal = slot_constraint on_principal;
  action = slot_rule on_action;
  resource = slot_constraint on_resource;
  clause = None;
}

-- The body of a template with the effect `permit` and these slots.
abbrev pub template_body : List ℕ → TemplateSlots → BodyParts
template_body i w = slotted_body i Permit (is_listed_id (slots_of_word w) Principal) (is_listed_id (slots_of_word w) Action)
    (is_listed_id (slots_of_word w) Resource)

-- ---- Commands

-- Whether an insertion into the current set has this effect and output, given its step. If the step fails, the sets are
-- unchanged.
abbrev pub RunsInsertion : Result SetParts Refusal → TwoSets → TwoSets → List ℕ → Type 0
RunsInsertion (Ok b) old new out = (new ≡ with_current old b) × (out ≡ ok_line)
RunsInsertion (Err r) old new out = (new ≡ old) × (out ≡ refused_line r)

-- Whether unlinking in the current set has this effect and output, given its step. If the step fails, the sets are
-- unchanged.
abbrev pub RunsUnlink : Result Binding Refusal → List ℕ → TwoSets → TwoSets → List ℕ → Type 0
RunsUnlink (Ok b) i old new out = (new ≡ with_current old (without_id old.current i)) × (out ≡ ok_line)
RunsUnlink (Err r) i old new out = (new ≡ old) × (out ≡ refused_line r)

-- Whether a merge fails with this output: renaming is not allowed, and the output has the first id in conflict. The
-- sets are unchanged.
abbrev pub IsMergeError : Bool → TwoSets → TwoSets → List ℕ → Type 0
IsMergeError rename old new out =
    (i : List ℕ) × (rest : List (List ℕ)) × (rename ≡ false) × (conflicts old.current old.aside ≡ i ∷ rest)
    × (new ≡ old) × (out ≡ refused_line (occupied i))

-- Whether a merge succeeds with this effect and output. The current set is the merged set, and the output has the
-- renamed ids with their new ids. If renaming is not allowed, there is no conflict.
abbrev pub IsMerge : Bool → TwoSets → TwoSets → List ℕ → Type 0
IsMerge rename old new out =
    (r : List (List ℕ × List ℕ)) × IsRenaming old.current old.aside r
    × (rename ≡ false → conflicts old.current old.aside ≡ [])
    × (new ≡ with_current old (merged old.current old.aside (new_id r))) × (out ≡ merged_line r)

-- Whether a merge has this effect and output: it fails or succeeds.
abbrev pub RunsMerge : Bool → TwoSets → TwoSets → List ℕ → Type 0
RunsMerge rename old new out = IsMergeError rename old new out ⊎ IsMerge rename old new out

-- Whether a command changes the sets `old` to the sets `new` and writes `out`.
abbrev pub RunsPolicyCommand : PolicyCommand → TwoSets → TwoSets → List ℕ → Type 0
RunsPolicyCommand (Static i e) old new out = RunsInsertion (add_static_step old.current (static_body i e)) old new out
RunsPolicyCommand (Template i w) old new out = RunsInsertion (add_template_step old.current (template_body i w)) old new out
RunsPolicyCommand (Link t l e) old new out = RunsInsertion (link_step old.current t l e) old new out
RunsPolicyCommand (Unlink i) old new out = RunsUnlink (unlink_step old.current i) i old new out
RunsPolicyCommand Other old new out = (new ≡ swapped old) × (out ≡ ok_line)
RunsPolicyCommand (Merge rename) old new out = RunsMerge rename old new out
RunsPolicyCommand Ids old new out = (new ≡ old) × (out ≡ ids_lines old.current)

-- Whether a command changes the sets `old` to the sets `new` and appends its output. `before` and `after` are the whole
-- output before and after it.
abbrev pub PolicyWrites : PolicyCommand → TwoSets → TwoSets → List ℕ → List ℕ → Type 0
PolicyWrites c old new before after = (text : List ℕ) × RunsPolicyCommand c old new text × (after ≡ before ++ text)

-- Whether fields are run correctly, given the returned truth value. Fields that are a command are run as this command.
-- Any other fields change nothing.
abbrev pub RunsPolicyFields : Bool → List (List ℕ) → TwoSets → TwoSets → List ℕ → List ℕ → Type 0
RunsPolicyFields true fs old new before after = (c : PolicyCommand) × IsPolicyCommand c fs
    × PolicyWrites c old new before after
RunsPolicyFields false fs old new before after = ((c : PolicyCommand) → IsPolicyCommand c fs → ⊥) × (new ≡ old)
    × (after ≡ before)
