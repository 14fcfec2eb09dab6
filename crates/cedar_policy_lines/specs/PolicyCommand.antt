-- The commands on policy sets, and the fields of each command. The fields of a line are separated by tabs.
use Rattle.std.specs.Prelude.{◌≡◌, ℕ, List, [], ◌∷◌, ◌++◌, Bool, true, false, Some, codes, if◌then◌else◌}
use Rattle.cedar_ids.specs.TextOf.{IsPrinted}
use Rattle.cedar_ids.specs.Uid.{UidParts}
use Rattle.cedar_terms.specs.SlotTree.{all_slots, same_slot}
use Rattle.cedar_terms.specs.declared.slot.SlotId.{SlotId}
use Rattle.cedar_terms.specs.declared.slot.SlotId.TheVariants.{Principal, Action, Resource}
use Rattle.cedar_binding.specs.Bindings.{EnvParts, no_env, binds}
use Rattle.cedar_body.specs.declared.effect.Effect.{Effect}
use Rattle.cedar_body.specs.declared.effect.Effect.TheVariants.{Permit, Forbid}
use Rattle.cedar_policy_lines.specs.declared.field.TemplateSlots.{TemplateSlots}
use Rattle.cedar_policy_lines.specs.declared.field.TemplateSlots.TheVariants.{NoSlots, OnPrincipal, OnAction}
use Rattle.cedar_policy_lines.specs.declared.field.TemplateSlots.TheVariants.{OnResource, OnBoth, OnAll}

-- A command on policy sets:
--
-- - `Static`: adds a static policy with this id and effect.
-- - `Template`: adds a template with this id and these slots.
-- - `Link`: links the template with the first id under the second id, with these bindings.
-- - `Unlink`: removes the link with this id.
-- - `Other`: swaps the two sets.
-- - `Merge`: merges the other set into the current one. The truth value states whether ids in conflict are renamed.
-- - `Ids`: writes the ids of the current set.
pub data PolicyCommand : Type 0 where
  Static : List ℕ → Effect → PolicyCommand
  Template : List ℕ → TemplateSlots → PolicyCommand
  Link : List ℕ → List ℕ → EnvParts → PolicyCommand
  Unlink : List ℕ → PolicyCommand
  Other : PolicyCommand
  Merge : Bool → PolicyCommand
  Ids : PolicyCommand

-- ---- Single fields

-- The word of an effect.
abbrev pub effect_word : Effect → List ℕ
effect_word Permit = codes "permit"
effect_word Forbid = codes "forbid"

-- The word of a template's slots.
abbrev pub slots_word : TemplateSlots → List ℕ
slots_word NoSlots = codes "none"
slots_word OnPrincipal = codes "principal"
slots_word OnAction = codes "action"
slots_word OnResource = codes "resource"
slots_word OnBoth = codes "both"
slots_word OnAll = codes "all"

-- The slots with this word.
abbrev pub slots_of_word : TemplateSlots → List SlotId
slots_of_word NoSlots = []
slots_of_word OnPrincipal = Principal ∷ []
slots_of_word OnAction = Action ∷ []
slots_of_word OnResource = Resource ∷ []
slots_of_word OnBoth = Principal ∷ Resource ∷ []
slots_of_word OnAll = all_slots

-- The word of a merge. `true` stands for renaming ids in conflict.
abbrev pub renaming_word : Bool → List ℕ
renaming_word true = codes "rename"
renaming_word false = codes "keep"

-- The text before the uid of a slot. Example: the field `principal=A::"a"` binds the slot of the principal.
abbrev pub slot_mark : SlotId → List ℕ
slot_mark Principal = codes "principal="
slot_mark Action = codes "action="
slot_mark Resource = codes "resource="

-- Whether the field `f` binds the slot `s` to the uid `u`. It consists of the slot's mark and the text of the uid,
-- whose eid is ASCII.
abbrev pub IsBinding : SlotId → UidParts → List ℕ → Type 0
IsBinding s u f = (t : List ℕ) × IsPrinted u t × (f ≡ slot_mark s ++ t)

-- ---- Bindings

-- The bindings with one more slot bound.
abbrev pub bound_more : EnvParts → SlotId → UidParts → EnvParts
bound_more e s u r = if same_slot r s then Some u else e r

-- Whether the fields extend the bindings `d` to the bindings `e`. Each field binds one slot that is not bound yet.
abbrev pub BindMore : EnvParts → List (List ℕ) → EnvParts → Type 0
BindMore d [] e = e ≡ d
BindMore d (f ∷ fs) e = (s : SlotId) × (u : UidParts) × IsBinding s u f × (binds d s ≡ false)
    × BindMore (bound_more d s u) fs e

-- Whether the fields are these bindings: one field for each bound slot, in any order.
abbrev pub AreBindings : EnvParts → List (List ℕ) → Type 0
AreBindings e fs = BindMore no_env fs e

-- ---- Commands

-- Whether these fields are a line of this command: its word, and then its arguments.
abbrev pub IsPolicyCommand : PolicyCommand → List (List ℕ) → Type 0
IsPolicyCommand (Static i e) fs = fs ≡ codes "static" ∷ i ∷ effect_word e ∷ []
IsPolicyCommand (Template i w) fs = fs ≡ codes "template" ∷ i ∷ slots_word w ∷ []
IsPolicyCommand (Link t l e) fs = (bs : List (List ℕ)) × AreBindings e bs × (fs ≡ codes "link" ∷ t ∷ l ∷ bs)
IsPolicyCommand (Unlink i) fs = fs ≡ codes "unlink" ∷ i ∷ []
IsPolicyCommand Other fs = fs ≡ codes "other" ∷ []
IsPolicyCommand (Merge r) fs = fs ≡ codes "merge" ∷ renaming_word r ∷ []
IsPolicyCommand Ids fs = fs ≡ codes "ids" ∷ []
