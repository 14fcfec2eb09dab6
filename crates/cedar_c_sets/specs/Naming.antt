-- The results of the calls that list the policies and templates that name a uid.
use Rattle.std.specs.Prelude.{◌≡◌, ℕ, List, map, Result, Ok, Err}
use Rattle.std.specs.List.{filter}
use Rattle.cedar_ids.specs.Uid.{UidParts}
use Rattle.cedar_ids.specs.UidOf.{uid_parts}
use Rattle.cedar_ids.specs.declared.entity.EntityUID.{EntityUID}
use Rattle.cedar_body.specs.Bodies.{BodyParts}
use Rattle.cedar_policy.specs.Policies.{policy_id}
use Rattle.cedar_policy_maps.specs.Lists.{slotted_in}
use Rattle.cedar_policy_maps.specs.PolicySets.{SetParts}
use Rattle.cedar_naming.specs.Naming.{body_names, policy_names}
use Rattle.cedar_c_lists.specs.Texts.{IsReadOf, IsUnread}
use Rattle.cedar_c_lists.specs.declared.reason.Reason.{Reason}
use Rattle.cedar_c_sets.specs.Reads.{IsAnswered}
use Rattle.cedar_c_sets.specs.declared.set_state.SetState.{SetState}

-- The ids of the policies of a set, static policies and links, that name the uid q, in the order of the set.
abbrev pub policies_naming : UidParts → SetParts → List (List ℕ)
policies_naming q b = map policy_id (filter (policy_names q) b.policies)

-- The id of a body.
abbrev pub body_id : BodyParts → List ℕ
body_id t = t.id

-- The ids of the templates with slots that name the uid q, in the order of the set.
abbrev pub templates_naming : UidParts → SetParts → List (List ℕ)
templates_naming q b = map body_id (filter (body_names q) (slotted_in b.bodies))

-- Holds for the effect of listing ids by the uid in a text. They are stored in `answer`. After an error nothing changes.
abbrev pub AnswersNaming : {A B H : Type 0} → (UidParts → SetParts → List (List ℕ)) → List ℕ → Result A Reason
    → SetState B H → SetState B H → Type 0
AnswersNaming naming text (Ok a) i j =
    (u : EntityUID) × IsReadOf u text × IsAnswered (λ ids. ids ≡ naming (uid_parts u) i.set) i j
AnswersNaming naming text (Err w) i j = (j ≡ i) × IsUnread text w
