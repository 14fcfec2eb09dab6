-- Conditions under which a set with an added policy is a policy set.
use Rattle.std.specs.Prelude.{◌≡◌, ℕ, List, [], false, Option, Some, None}
use Rattle.cedar_ids.specs.Texts.{same_text}
use Rattle.cedar_body.specs.Bodies.{body_slots}
use Rattle.cedar_binding.specs.Bindings.{FitsSlots}
use Rattle.cedar_policy.specs.Policies.{PolicyParts, static_policy}
use Rattle.cedar_policy_maps.specs.PolicySets.{SetParts, Template, bound_at, is_bound}

-- Whether a policy with this optional link id can be added to a set that contains its template. A static policy cannot.
-- A link can if its id is not in use, its template is in the set, and its bindings fit.
abbrev pub CanInsertBy : Option (List ℕ) → SetParts → PolicyParts → Type 0
CanInsertBy None b p = ⊥
CanInsertBy (Some l) b p =
    (is_bound b l ≡ false) × (bound_at b p.template.id ≡ Some (Template p.template))
    × FitsSlots (body_slots p.template) p.env

-- Whether a policy can be added to a set that contains its template. A static policy cannot.
abbrev pub CanInsert : SetParts → PolicyParts → Type 0
CanInsert b p = CanInsertBy p.link b p

-- Whether a policy with this optional link id can be added together with its body, if the body's id is not in use. A
-- static policy must be the static policy of the body, which has no slots. The id of a link must not be in use and must
-- differ from the body's, and its bindings must fit.
abbrev pub CanInsertWithBodyBy : Option (List ℕ) → SetParts → PolicyParts → Type 0
CanInsertWithBodyBy None b p = (p ≡ static_policy p.template) × (body_slots p.template ≡ [])
CanInsertWithBodyBy (Some l) b p = (is_bound b l ≡ false) × (same_text l p.template.id ≡ false)
    × FitsSlots (body_slots p.template) p.env

-- Whether a policy can be added together with its body: the body's id is not in use, and `CanInsertWithBodyBy` holds.
abbrev pub CanInsertWithBody : SetParts → PolicyParts → Type 0
CanInsertWithBody b p = (is_bound b p.template.id ≡ false) × CanInsertWithBodyBy p.link b p
