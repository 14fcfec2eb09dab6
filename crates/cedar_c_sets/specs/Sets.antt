-- The results of the calls on a policy set, for any hasher builder B with hashers H.
use Rattle.std.specs.Prelude.{◌≡◌, ◌⊎◌, ◌+◌, ℕ, List, [], ◌∷◌, ◌++◌, Bool, false, IsTrue, Option, Some, None, Result}
use Rattle.std.specs.Prelude.{Ok, Err, if◌then◌else◌}
use Rattle.std.specs.List.{flat_map}
use Rattle.std.specs.Str.{IsUtf8}
use Rattle.cedar_ids.specs.Escape.{is_ascii}
use Rattle.cedar_ids.specs.Printed.{printed_uid}
use Rattle.cedar_ids.specs.UidOf.{uid_parts}
use Rattle.cedar_ids.specs.declared.entity.EntityUID.{EntityUID}
use Rattle.cedar_terms.specs.declared.slot.SlotId.{SlotId}
use Rattle.cedar_terms.specs.declared.slot.SlotId.TheVariants.{Principal, Action, Resource}
use Rattle.cedar_binding.specs.Bindings.{EnvParts, no_env}
use Rattle.cedar_binding.specs.BindingTexts.{arity_text}
use Rattle.cedar_body.specs.Bodies.{BodyParts}
use Rattle.cedar_body.specs.declared.effect.Effect.{Effect}
use Rattle.cedar_policy_maps.specs.PolicySets.{SetParts, Binding, without_id}
use Rattle.cedar_policy_merge.specs.Merge.{conflicts, merged, new_id, IsRenaming, body_ids, policy_ids}
use Rattle.cedar_policy_set.specs.Steps.{Refusal, occupied, no_body, no_such_template, arity, not_an_action}
use Rattle.cedar_policy_set.specs.Steps.{id_conflict, no_link, not_a_link, no_template, with_links, not_a_template}
use Rattle.cedar_policy_set.specs.Steps.{no_static, not_static, add_static_step, add_template_step, link_step}
use Rattle.cedar_policy_lines.specs.PolicyCommand.{bound_more}
use Rattle.cedar_policy_lines.specs.PolicyOutput.{slotted_body, static_body}
use Rattle.cedar_c_lists.specs.Answers.{part}
use Rattle.cedar_c_lists.specs.Reasons.{words_of}
use Rattle.cedar_c_lists.specs.Stops.{IsStopped, KeepsErrorText}
use Rattle.cedar_c_lists.specs.Texts.{IsInside, IsNoId, IsReadAt, IsUnreadAt}
use Rattle.cedar_c_bodies.specs.Bodies.{IsEffect, IsNoEffect}
use Rattle.cedar_c_sets.specs.declared.set_state.SetState.{SetState}
use Rattle.cedar_c_lists.specs.declared.layout.Span.{Span}
use Rattle.cedar_c_sets.specs.declared.making.TemplateSlots.{TemplateSlots}
use Rattle.cedar_c_lists.specs.declared.reason.Reason.{Reason}
use Rattle.cedar_c_lists.specs.declared.reason.Reason.TheVariants as reasons

-- ---- Numbers and texts

-- The number of slots is a sum: 1 for the principal, 2 for the action and 4 for the resource.
abbrev pub IsSlots : ℕ → TemplateSlots → Type 0
IsSlots n s = n ≡ (if s.principal then 1 else 0) + ((if s.action then 2 else 0) + (if s.resource then 4 else 0))

-- Holds if the number is not a number of slots; the reason is `BadArgument`.
abbrev pub IsNoSlots : ℕ → Reason → Type 0
IsNoSlots n w = (w ≡ reasons.BadArgument) × ((s : TemplateSlots) → IsSlots n s → ⊥)

-- The body of a template with these slots and no other constraints.
abbrev pub template_body : List ℕ → Effect → TemplateSlots → BodyParts
template_body i e s = slotted_body i e s.principal s.action s.resource

-- The binding in a part of a text: none if the part is empty, and otherwise the parsed uid.
abbrev pub IsBoundAs : List ℕ → Span → Option EntityUID → Type 0
IsBoundAs text s None = IsInside text s × (part text s ≡ [])
IsBoundAs text s (Some u) = (part text s ≡ [] → ⊥) × IsReadAt text u s

-- Holds if w is the reason why there is no binding.
abbrev pub IsUnboundAs : List ℕ → Span → Reason → Type 0
IsUnboundAs text s w = IsUnreadAt text s w

-- The bindings with one more slot bound, if there is a uid.
abbrev pub bound_if : EnvParts → SlotId → Option EntityUID → EnvParts
bound_if e s None = e
bound_if e s (Some u) = bound_more e s (uid_parts u)

-- Holds if a slot was bound to the uid in a part of a text.
abbrev pub Binds : List ℕ → Span → SlotId → EnvParts → EnvParts → Type 0
Binds text at s old new = (o : Option EntityUID) × IsBoundAs text at o × (new ≡ bound_if old s o)

-- The bindings of principal, action and resource in three parts of a text.
abbrev pub AreBindings : List ℕ → List Span → EnvParts → Type 0
AreBindings text (p ∷ (a ∷ (r ∷ []))) e =
    (x : Option EntityUID) × (y : Option EntityUID) × (z : Option EntityUID) × IsBoundAs text p x × IsBoundAs text a y
    × IsBoundAs text r z
    × (e ≡ bound_if (bound_if (bound_if no_env Principal x) Action y) Resource z)
AreBindings text parts e = ⊥

-- Holds if w is the reason why there are no bindings: there are not three parts, or one is invalid.
abbrev pub IsUnboundBy : List ℕ → List Span → Reason → Type 0
IsUnboundBy text (p ∷ (a ∷ (r ∷ []))) w = IsUnboundAs text p w ⊎ (IsUnboundAs text a w ⊎ IsUnboundAs text r w)
IsUnboundBy text parts w = w ≡ reasons.BadArgument

-- ---- Errors

-- The reason of an error.
abbrev pub reason_of : Refusal → Reason
reason_of (occupied i) = reasons.Occupied
reason_of (no_body i) = reasons.NoBody
reason_of (no_such_template i) = reasons.NoSuchTemplate
reason_of (arity u x) = reasons.Arity
reason_of (not_an_action u) = reasons.NotAnAction
reason_of (id_conflict i) = reasons.IdConflict
reason_of (no_link i) = reasons.NoLink
reason_of (not_a_link i) = reasons.NotALink
reason_of (no_template i) = reasons.NoTemplate
reason_of (with_links i) = reasons.WithLinks
reason_of (not_a_template i) = reasons.NotATemplate
reason_of (no_static i) = reasons.NoStatic
reason_of (not_static i) = reasons.NotStatic

-- The name in an error: an id, slots, or a uid.
abbrev pub name_in_error : Refusal → List ℕ
name_in_error (occupied i) = i
name_in_error (no_body i) = i
name_in_error (no_such_template i) = i
name_in_error (arity u x) = arity_text u x
name_in_error (not_an_action u) = printed_uid u
name_in_error (id_conflict i) = i
name_in_error (no_link i) = i
name_in_error (not_a_link i) = i
name_in_error (no_template i) = i
name_in_error (with_links i) = i
name_in_error (not_a_template i) = i
name_in_error (no_static i) = i
name_in_error (not_static i) = i

-- Holds if the uid in the error, if there is one, has an ASCII eid.
abbrev pub NamesAscii : Refusal → Type 0
NamesAscii (not_an_action u) = IsTrue (is_ascii u.eid)
NamesAscii x = Unit {0}

-- Holds if w is the reason of the error, and the text has the words of the reason, a blank, and the name. If the name
-- is a uid with a non-ASCII eid, the text is unspecified.
abbrev pub IsErrorTextBy : Refusal → Reason → List ℕ → Type 0
IsErrorTextBy x w text = (w ≡ reason_of x) × (NamesAscii x → text ≡ words_of w ++ (32 ∷ name_in_error x))

-- Holds if there is an error, with this reason and this text.
abbrev pub IsErrorTextFor : Option Refusal → Reason → List ℕ → Type 0
IsErrorTextFor None w text = ⊥
IsErrorTextFor (Some x) w text = IsErrorTextBy x w text

-- ---- Steps

-- A call that returns no texts keeps `answer` and `nodes`. It keeps the text of the last error if it succeeds or an
-- allocation fails.
abbrev pub KeepsTexts : {A B H : Type 0} → Result A Reason → SetState B H → SetState B H → Type 0
KeepsTexts r i j = (j.answer ≡ i.answer) × (j.nodes.items ≡ i.nodes.items) × KeepsErrorText r i.refusal.items j.refusal.items

-- Holds for the effect of a call that makes a step. The set is the result of the step. After an error the set is
-- unchanged, and the error is the error of the step or an allocation failure.
abbrev pub AppliesStep : {A B H : Type 0} → Result SetParts Refusal → Result A Reason → SetState B H → SetState B H → Type 0
AppliesStep step (Ok a) i j = step ≡ Ok j.set
AppliesStep step (Err w) i j = (j.set ≡ i.set) × ((w ≡ reasons.NoMemory)
    ⊎ ((x : Refusal) × (step ≡ Err x) × IsErrorTextBy x w j.refusal.items))

-- The policy set after a removal, or its error.
abbrev pub after_removal : SetParts → List ℕ → Result Binding Refusal → Result SetParts Refusal
after_removal b i (Ok x) = Ok (without_id b i)
after_removal b i (Err x) = Err x

-- Holds for the effect of adding a static policy without constraints from an id and the number of an effect, or the
-- reason why the input is invalid.
abbrev pub AddsStatic : {A B H : Type 0} → List ℕ → ℕ → Result A Reason → SetState B H → SetState B H → Type 0
AddsStatic id n r i j =
    IsStopped (λ w. IsNoEffect n w ⊎ IsNoId id w) r i j
    ⊎ ((e : Effect) × IsEffect n e × IsUtf8 id × AppliesStep (add_static_step i.set (static_body id e)) r i j
    × KeepsTexts r i j)

-- Holds for the effect of adding a template from an id and the numbers of an effect and of slots, or the reason why the
-- input is invalid.
abbrev pub AddsTemplate : {A B H : Type 0} → List ℕ → ℕ → ℕ → Result A Reason → SetState B H → SetState B H → Type 0
AddsTemplate id n m r i j =
    IsStopped (λ w. IsNoEffect n w ⊎ (IsNoSlots m w ⊎ IsNoId id w)) r i j
    ⊎ ((e : Effect) × (s : TemplateSlots) × IsEffect n e × IsSlots m s × IsUtf8 id
    × AppliesStep (add_template_step i.set (template_body id e s)) r i j × KeepsTexts r i j)

-- Holds for the effect of linking a template from two ids and bindings, or the reason why the input is invalid.
abbrev pub Links : {A B H : Type 0} → List ℕ → List ℕ → List ℕ → List Span → Result A Reason → SetState B H → SetState B H
    → Type 0
Links template id text parts r i j =
    IsStopped (λ w. IsNoId template w ⊎ (IsNoId id w ⊎ IsUnboundBy text parts w)) r i j
    ⊎ ((e : EnvParts) × AreBindings text parts e × IsUtf8 template × IsUtf8 id
    × AppliesStep (link_step i.set template id e) r i j × KeepsTexts r i j)

-- Holds for the effect of a removal by id, or the reason why the id is invalid.
abbrev pub RemovesById : {A B H : Type 0} → (SetParts → List ℕ → Result Binding Refusal) → List ℕ → Result A Reason
    → SetState B H → SetState B H → Type 0
RemovesById step id r i j = IsStopped (IsNoId id) r i j ⊎ (IsUtf8 id × AppliesStep (after_removal i.set id (step i.set id)) r i j
    × KeepsTexts r i j)

-- ---- Merging

-- An entry of a renaming as texts: the old id, followed by the new one.
abbrev pub pair_of : List ℕ × List ℕ → List (List ℕ)
pair_of p = p.0 ∷ p.1 ∷ []

-- A renaming as texts: each old id, followed by the new one.
abbrev pub renaming_texts : List (List ℕ × List ℕ) → List (List ℕ)
renaming_texts r = flat_map pair_of r

-- Holds for the effect of merging another set. The texts of the renaming are stored in `answer`. After an error the set
-- is unchanged. The error is an allocation failure, or the first conflicting id if ids are not renamed. After an
-- allocation failure the text of the last error is kept.
abbrev pub MergesSet : {A B H : Type 0} → SetParts → Bool → Result A Reason → SetState B H → SetState B H → Type 0
MergesSet other rename (Ok a) i j =
    (r : List (List ℕ × List ℕ)) × IsRenaming i.set other r × (rename ≡ false → conflicts i.set other ≡ [])
    × (j.set ≡ merged i.set other (new_id r)) × (j.answer ≡ renaming_texts r) × (j.nodes.items ≡ i.nodes.items)
    × (j.refusal.items ≡ i.refusal.items)
MergesSet other rename (Err w) i j =
    (j.set ≡ i.set) × (j.answer ≡ i.answer) × (j.nodes.items ≡ i.nodes.items)
    × (w ≡ reasons.NoMemory → j.refusal.items ≡ i.refusal.items)
    × ((w ≡ reasons.NoMemory)
    ⊎ ((rename ≡ false) × ((id : List ℕ) × (rest : List (List ℕ)) × (conflicts i.set other ≡ id ∷ rest)
    × IsErrorTextBy (occupied id) w j.refusal.items)))

-- ---- Ids

-- The ids of a policy set by number: 0 for the bodies and 1 for the policies, each in order.
abbrev pub IsKind : ℕ → SetParts → List (List ℕ) → Type 0
IsKind n b ids = ((n ≡ 0) × (ids ≡ body_ids b)) ⊎ ((n ≡ 1) × (ids ≡ policy_ids b))

-- Holds for the effect of reading the ids. They are stored in `answer`. After an error nothing changes.
abbrev pub ListsIds : {A B H : Type 0} → ℕ → Result A Reason → SetState B H → SetState B H → Type 0
ListsIds n (Ok a) i j =
    (j.set ≡ i.set) × (j.refusal.items ≡ i.refusal.items) × (j.nodes.items ≡ i.nodes.items) × IsKind n i.set j.answer
ListsIds n (Err w) i j = (j ≡ i) × ((w ≡ reasons.NoMemory)
    ⊎ ((w ≡ reasons.BadArgument) × ((ids : List (List ℕ)) → IsKind n i.set ids → ⊥)))

-- Holds if `answer` and `nodes` are empty, and there is no last error.
abbrev pub IsUntold : {B H : Type 0} → SetState B H → Type 0
IsUntold k = (k.answer ≡ []) × (k.refusal.items ≡ []) × (k.nodes.items ≡ [])

-- Holds for the result of copying a set: an equal set, or an allocation failure.
abbrev pub CopiesSet : {B H : Type 0} → SetParts → Result (SetState B H) Reason → Type 0
CopiesSet b (Ok k) = (k.set ≡ b) × IsUntold k
CopiesSet b (Err w) = w ≡ reasons.NoMemory
