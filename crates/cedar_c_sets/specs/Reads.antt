-- The results of the calls that read a policy set.
use Rattle.std.specs.Prelude.{◌≡◌, ◌⊎◌, ℕ, List, [], ◌∷◌, Bool, true, false, Option, Some, None, Result, Ok, Err}
use Rattle.std.specs.List.{find, flat_map}
use Rattle.std.specs.Option.{IfSome, option_map}
use Rattle.std.specs.Str.{IsUtf8}
use Rattle.cedar_ids.specs.Printed.{uid_output}
use Rattle.cedar_ids.specs.TextOf.{IsIdentifierText}
use Rattle.cedar_ids.specs.Uid.{UidParts}
use Rattle.cedar_terms.specs.declared.slot.SlotId.TheVariants.{Principal, Action, Resource}
use Rattle.cedar_annotation.specs.Annotations.{KeysAscend, value_at}
use Rattle.cedar_binding.specs.Bindings.{EnvParts, is_listed_id}
use Rattle.cedar_body.specs.Bodies.{BodyParts, body_slots}
use Rattle.cedar_body.specs.BodyTexts.{body_output}
use Rattle.cedar_policy.specs.Policies.{PolicyParts}
use Rattle.cedar_policy.specs.PolicyTexts.{policy_output}
use Rattle.cedar_policy_set.specs.SetTexts.{set_output}
use Rattle.cedar_policy_maps.specs.PolicySets.{SetParts, Binding, Static, Template, Link, bound_at, is_body_at}
use Rattle.cedar_policy_maps.specs.PolicySets.{is_policy_at}
use Rattle.cedar_policy_set.specs.Steps.{get_linked_step, no_body}
use Rattle.cedar_c_lists.specs.Texts.{IsNoId}
use Rattle.cedar_c_lists.specs.declared.reason.Reason.{Reason}
use Rattle.cedar_c_lists.specs.declared.reason.Reason.TheVariants as reasons
use Rattle.cedar_c_bodies.specs.Annotated.{IsNoKey}
use Rattle.cedar_c_bodies.specs.Bodies.{IsEffect}
use Rattle.cedar_c_sets.specs.Sets.{IsSlots, pair_of}
use Rattle.cedar_c_sets.specs.declared.set_state.SetState.{SetState}
use Rattle.cedar_c_sets.specs.declared.making.TemplateSlots.{TemplateSlots}

-- ---- Lookups by id

-- The body with an id: the body of a static policy or a template.
abbrev pub body_at : SetParts → List ℕ → Option BodyParts
body_at b id = find (is_body_at id) b.bodies

-- The policy with an id: a static policy or a link.
abbrev pub policy_at : SetParts → List ℕ → Option PolicyParts
policy_at b id = find (is_policy_at id) b.policies

-- The body of a binding. For a link it is the body of its template.
abbrev pub body_bound : Binding → BodyParts
body_bound (Static t) = t
body_bound (Template t) = t
body_bound (Link l t e) = t

-- The body of the policy or template with an id.
abbrev pub bound_body : SetParts → List ℕ → Option BodyParts
bound_body b id = option_map body_bound (bound_at b id)

-- The number of a kind: 1 for a static policy, 2 for a link, 3 for a template, and 0 if the id is not in use.
abbrev pub kind_number : Option Binding → ℕ
kind_number None = 0
kind_number (Some (Static t)) = 1
kind_number (Some (Link l t e)) = 2
kind_number (Some (Template t)) = 3

-- Holds for the result of reading the kind of an id, or the reason for the error.
abbrev pub KindAt : SetParts → List ℕ → Result ℕ Reason → Type 0
KindAt b id (Ok n) = IsUtf8 id × (n ≡ kind_number (bound_at b id))
KindAt b id (Err w) = IsNoId id w

-- ---- Values

-- Holds if w is the reason why a lookup by id has no result.
abbrev pub IsUntoldAt : {X : Type 0} → Option X → List ℕ → Reason → Type 0
IsUntoldAt {X = X} found id w = IsNoId id w ⊎ ((w ≡ reasons.NoBody) × IsUtf8 id × (found ≡ None))

-- Holds for the result of reading a value of the policy or body with an id, or the reason for the error.
abbrev pub ReadsAt : {X V : Type 0} → (SetParts → List ℕ → Option X) → (V → X → Type 0) → SetParts → List ℕ
    → Result V Reason → Type 0
ReadsAt {X = X} at Is b id (Ok v) = IsUtf8 id × ((x : X) × (at b id ≡ Some x) × Is v x)
ReadsAt at Is b id (Err w) = IsUntoldAt (at b id) id w

-- Holds if n is the number of the body's effect.
abbrev pub IsEffectOf : ℕ → BodyParts → Type 0
IsEffectOf n t = IsEffect n t.effect

-- The slots of a body.
abbrev pub slots_of_body : BodyParts → TemplateSlots
slots_of_body t = record {
  principal = is_listed_id (body_slots t) Principal;
  action = is_listed_id (body_slots t) Action;
  resource = is_listed_id (body_slots t) Resource;
}

-- Holds if n is the number of the body's slots.
abbrev pub IsSlotsOf : ℕ → BodyParts → Type 0
IsSlotsOf n t = IsSlots n (slots_of_body t)

-- ---- Stored texts

-- Holds if the new `answer` satisfies `Are`. The set, the nodes and the last error do not change.
abbrev pub IsAnswered : {B H : Type 0} → (List (List ℕ) → Type 0) → SetState B H → SetState B H → Type 0
IsAnswered Are i j = (j.set ≡ i.set) × (j.refusal.items ≡ i.refusal.items) × (j.nodes.items ≡ i.nodes.items)
    × Are j.answer

-- Holds for the effect of reading texts of the policy or body with an id. They are stored in `answer`. After an error
-- nothing changes.
abbrev pub AnswersAt : {X A B H : Type 0} → (SetParts → List ℕ → Option X) → (X → List (List ℕ) → Type 0) → List ℕ
    → Result A Reason → SetState B H → SetState B H → Type 0
AnswersAt {X = X} at Are id (Ok a) i j = IsUtf8 id × ((x : X) × (at i.set id ≡ Some x) × IsAnswered (Are x) i j)
AnswersAt at Are id (Err w) i j = (j ≡ i) × IsUntoldAt (at i.set id) id w

-- Holds if the text is the specified output. If the output is unspecified, it always holds.
abbrev pub IsTextBy : Option (List ℕ) → List ℕ → Type 0
IsTextBy output text = IfSome output (λ t. text ≡ t)

-- Holds if there is one text, and it is the specified output.
abbrev pub IsOneBy : Option (List ℕ) → List (List ℕ) → Type 0
IsOneBy output texts = (t : List ℕ) × (texts ≡ t ∷ []) × IsTextBy output t

-- Holds if the only text is the text of the body.
abbrev pub IsBodyText : BodyParts → List (List ℕ) → Type 0
IsBodyText t texts = IsOneBy (body_output t) texts

-- Holds if the only text is the text of the policy.
abbrev pub IsPolicyText : PolicyParts → List (List ℕ) → Type 0
IsPolicyText p texts = IsOneBy (policy_output p) texts

-- Holds if the only text is the id of the policy's template.
abbrev pub IsTemplateId : PolicyParts → List (List ℕ) → Type 0
IsTemplateId p texts = texts ≡ p.template.id ∷ []

-- Holds if the texts are the annotations of a body in ascending order of key: each key, followed by its value.
abbrev pub AreAnnotations : BodyParts → List (List ℕ) → Type 0
AreAnnotations t texts = (texts ≡ flat_map pair_of t.annotations) × KeysAscend t.annotations

-- Holds if the text is the text of the bound uid, or empty if the slot is not bound.
abbrev pub IsBoundText : Option UidParts → List ℕ → Type 0
IsBoundText None text = text ≡ []
IsBoundText (Some u) text = IsTextBy (uid_output u) text

-- Holds if the texts are the texts of the bound principal, action and resource.
abbrev pub AreBoundBy : EnvParts → List (List ℕ) → Type 0
AreBoundBy e texts =
    (x : List ℕ) × (y : List ℕ) × (z : List ℕ) × (texts ≡ x ∷ y ∷ z ∷ []) × IsBoundText (e Principal) x
    × IsBoundText (e Action) y × IsBoundText (e Resource) z

-- Holds if the texts are the bindings of the policy.
abbrev pub AreBoundIn : PolicyParts → List (List ℕ) → Type 0
AreBoundIn p texts = AreBoundBy p.env texts

-- Holds for the effect of reading the text of a set. It is stored in `answer`. After an allocation failure nothing
-- changes.
abbrev pub AnswersText : {A B H : Type 0} → Result A Reason → SetState B H → SetState B H → Type 0
AnswersText (Ok a) i j = IsAnswered (IsOneBy (set_output i.set)) i j
AnswersText (Err w) i j = (j ≡ i) × (w ≡ reasons.NoMemory)

-- Holds for the effect of reading the ids of the policies that use a body. They are stored in `answer`. After an error
-- nothing changes.
abbrev pub AnswersLinked : {A B H : Type 0} → List ℕ → Result A Reason → SetState B H → SetState B H → Type 0
AnswersLinked id (Ok a) i j = IsUtf8 id × IsAnswered (λ ids. get_linked_step i.set id ≡ Ok ids) i j
AnswersLinked id (Err w) i j =
    (j ≡ i) × (IsNoId id w ⊎ ((w ≡ reasons.NoBody) × IsUtf8 id × (get_linked_step i.set id ≡ Err (no_body id))))

-- ---- A single annotation

-- The texts for an annotation: its value, or no text if there is none.
abbrev pub IsValueEncoded : Option (List ℕ) → Bool → List (List ℕ) → Type 0
IsValueEncoded None has texts = (has ≡ false) × (texts ≡ [])
IsValueEncoded (Some v) has texts = (has ≡ true) × (texts ≡ v ∷ [])

-- Holds for the effect of reading the annotation with a key. Its value is stored in `answer`. After an error nothing
-- changes.
abbrev pub AnswersAnnotation : {B H : Type 0} → List ℕ → List ℕ → Result Bool Reason → SetState B H → SetState B H
    → Type 0
AnswersAnnotation id key (Ok has) i j =
    IsUtf8 id × IsIdentifierText key key × ((t : BodyParts) × (bound_body i.set id ≡ Some t)
    × IsAnswered (IsValueEncoded (value_at key t.annotations) has) i j)
AnswersAnnotation id key (Err w) i j = (j ≡ i) × (IsNoKey key w ⊎ IsUntoldAt (bound_body i.set id) id w)
