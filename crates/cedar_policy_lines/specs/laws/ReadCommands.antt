-- Fields are read as a command exactly if they are the fields of the command.
use Rattle.std.specs.Prelude.{◌≡◌, ◌⊎◌, ℕ, List, [], ◌∷◌, ◌++◌, length, drop, nat_eq, Bool, true, false, Option, Some}
use Rattle.std.specs.Prelude.{None, if◌then◌else◌, codes, option_and_then, Result, Ok, Err}
use Rattle.std.proofs.Common.{ap, sym, refl, subst, ◌∙◌, inl, inr}
use Rattle.std.specs.List.{starts_with}
use Rattle.std.specs.Option.{option_map}
use Rattle.std.specs.Cmp.{unsigned_Decides}
use Rattle.std.proofs.lemmas.Slice.Eq.{starts_is}
use Rattle.cedar_ids.specs.Texts.{same_text}
use Rattle.cedar_ids.specs.laws.TextLaws.{same_text_decides}
use Rattle.cedar_ids.specs.TextOf.{IsPrinted}
use Rattle.cedar_ids.specs.Uid.{UidParts}
use Rattle.cedar_ids.specs.laws.UidReading.{uid_reading}
use Rattle.cedar_ids.specs.laws.PrintedLaws.{uid_reading-printed}
use Rattle.cedar_ids.specs.laws.UidTexts.{uid_found}
use Rattle.cedar_ids.specs.declared.err.ParseErrors.{ParseErrors}
use Rattle.cedar_terms.specs.SlotTree.{all_slots}
use Rattle.cedar_terms.specs.declared.slot.SlotId.{SlotId}
use Rattle.cedar_terms.specs.declared.slot.SlotId.TheVariants.{Principal, Action, Resource}
use Rattle.cedar_binding.specs.Bindings.{EnvParts, no_env, binds}
use Rattle.cedar_body.specs.declared.effect.Effect.{Effect}
use Rattle.cedar_body.specs.declared.effect.Effect.TheVariants.{Permit, Forbid}
use Rattle.cedar_policy_lines.specs.PolicyCommand.{PolicyCommand, Static, Template, Link, Unlink, Other, Merge, Ids}
use Rattle.cedar_policy_lines.specs.PolicyCommand.{effect_word, slots_word, renaming_word, slot_mark, bound_more}
use Rattle.cedar_policy_lines.specs.PolicyCommand.{IsBinding, BindMore, AreBindings, IsPolicyCommand}
use Rattle.cedar_policy_lines.specs.declared.field.TemplateSlots.{TemplateSlots}
use Rattle.cedar_policy_lines.specs.declared.field.TemplateSlots.TheVariants.{NoSlots, OnPrincipal, OnAction}
use Rattle.cedar_policy_lines.specs.declared.field.TemplateSlots.TheVariants.{OnResource, OnBoth, OnAll}
use Rattle.cedar_policy_lines.specs.laws.PolicyReading.{effect_of, slots_of, renaming_of, read_uid, uid_read, behind}
use Rattle.cedar_policy_lines.specs.laws.PolicyReading.{bound_as, bound_by, binding_among, binding_of, with_binding}
use Rattle.cedar_policy_lines.specs.laws.PolicyReading.{bindings_from, bindings_of, only, static_of, template_of}
use Rattle.cedar_policy_lines.specs.laws.PolicyReading.{link_of, unlink_of, merge_of, bare_of, command_by}
use Rattle.cedar_policy_lines.specs.laws.PolicyReading.{policy_command}

-- ---- The fields of a command are read as the command

-- The text of a uid is read as the uid.
pub uid_is : (t : List ℕ) (u : UidParts) → IsPrinted u t → uid_read t ≡ Some u
uid_is t u h = ap read_uid (uid_reading-printed u t h)

-- The field of a binding is read as the binding.
binding_is : (s : SlotId) (u : UidParts) (f : List ℕ) → IsBinding s u f → binding_of f ≡ Some (s, u)
binding_is Principal u f h = ap binding_of h.2 ∙ ap (option_map {T = UidParts} {U = SlotId
    × UidParts} (λ v. (Principal, v))) (uid_is h.0 u h.1)
binding_is Action u f h = ap binding_of h.2 ∙ ap (option_map {T = UidParts} {U = SlotId
    × UidParts} (λ v. (Action, v))) (uid_is h.0 u h.1)
binding_is Resource u f h = ap binding_of h.2 ∙ ap (option_map {T = UidParts} {U = SlotId
    × UidParts} (λ v. (Resource, v))) (uid_is h.0 u h.1)

free_is : (b : Bool) (x : EnvParts) → b ≡ false → (if b then None else Some x) ≡ Some x
free_is true x e = absurd (cc)
free_is false x e = refl

-- Fields that extend bindings are read as the extended bindings.
more_is : (d : EnvParts) (fs : List (List ℕ)) (e : EnvParts) → BindMore d fs e → bindings_from (Some d) fs ≡ Some e
more_is d [] e h = ap Some (sym h)
more_is d (f ∷ fs) e h =
    ap (λ o. bindings_from (with_binding d o) fs) (binding_is h.0 h.1 f h.2)
    ∙ ap (λ o. bindings_from o fs) (free_is (binds d h.0) (bound_more d h.0 h.1) h.3)
    ∙ more_is (bound_more d h.0 h.1) fs e h.4

-- The fields of a command are read as the command.
pub command_is_read : (c : PolicyCommand) (fs : List (List ℕ)) → IsPolicyCommand c fs → policy_command fs ≡ Some c
command_is_read (Static i Permit) fs h = ap policy_command h
command_is_read (Static i Forbid) fs h = ap policy_command h
command_is_read (Template i NoSlots) fs h = ap policy_command h
command_is_read (Template i OnPrincipal) fs h = ap policy_command h
command_is_read (Template i OnAction) fs h = ap policy_command h
command_is_read (Template i OnResource) fs h = ap policy_command h
command_is_read (Template i OnBoth) fs h = ap policy_command h
command_is_read (Template i OnAll) fs h = ap policy_command h
command_is_read (Link t l e) fs h = ap policy_command h.2 ∙ ap (option_map (Link t l)) (more_is no_env h.0 e h.1)
command_is_read (Unlink i) fs h = ap policy_command h
command_is_read Other fs h = ap policy_command h
command_is_read (Merge true) fs h = ap policy_command h
command_is_read (Merge false) fs h = ap policy_command h
command_is_read Ids fs h = ap policy_command h

-- ---- Fields that are read as a command are fields of the command

not_some : {X : Type 0} {x : X} → None ≡ Some x → ⊥
not_some e = cc

some_is : {X : Type 0} {x y : X} → Some x ≡ Some y → x ≡ y
some_is e = cc

chosen : {X : Type 0} (b : Bool) (x y : Option X) (c : X) → (if b then x else y) ≡ Some c → ((b ≡ true) × (x ≡ Some c))
    ⊎ (y ≡ Some c)
chosen true x y c e = inl (refl, e)
chosen false x y c e = inr e

mapped : {X Y : Type 0} (f : X → Y) (o : Option X) (y : Y) → option_map f o ≡ Some y → (x : X) × (o ≡ Some x)
    × (f x ≡ y)
mapped f None y e = absurd (not_some e)
mapped f (Some x) y e = (x, refl, some_is e)

gone_on : {X Y : Type 0} (f : X → Option Y) (o : Option X) (y : Y) → option_and_then f o ≡ Some y → (x : X)
    × (o ≡ Some x) × (f x ≡ Some y)
gone_on f None y e = absurd (not_some e)
gone_on f (Some x) y e = (x, refl, e)

word_is : (w v : List ℕ) → same_text w v ≡ true → w ≡ v
word_is w v = (same_text_decides w v).0

effect_found : (w : List ℕ) (e : Effect) → effect_of w ≡ Some e → w ≡ effect_word e
effect_found w e h = elim (chosen (same_text w (codes "permit")) (Some Permit) _ e h) [
  | inl k ↦ word_is w (codes "permit") k.0 ∙ ap effect_word (some_is k.1)
  | inr j ↦ elim (chosen (same_text w (codes "forbid")) (Some Forbid) _ e j) [
    | inl k ↦ word_is w (codes "forbid") k.0 ∙ ap effect_word (some_is k.1)
    | inr k ↦ absurd (not_some k)
  ]
]

slots_found : (w : List ℕ) (s : TemplateSlots) → slots_of w ≡ Some s → w ≡ slots_word s
slots_found w s h = elim (chosen (same_text w (codes "none")) (Some NoSlots) _ s h) [
  | inl k ↦ word_is w (codes "none") k.0 ∙ ap slots_word (some_is k.1)
  | inr h2 ↦ elim (chosen (same_text w (codes "principal")) (Some OnPrincipal) _ s h2) [
    | inl k ↦ word_is w (codes "principal") k.0 ∙ ap slots_word (some_is k.1)
    | inr h3 ↦ elim (chosen (same_text w (codes "action")) (Some OnAction) _ s h3) [
      | inl k ↦ word_is w (codes "action") k.0 ∙ ap slots_word (some_is k.1)
      | inr h4 ↦ elim (chosen (same_text w (codes "resource")) (Some OnResource) _ s h4) [
        | inl k ↦ word_is w (codes "resource") k.0 ∙ ap slots_word (some_is k.1)
        | inr h5 ↦ elim (chosen (same_text w (codes "both")) (Some OnBoth) _ s h5) [
          | inl k ↦ word_is w (codes "both") k.0 ∙ ap slots_word (some_is k.1)
          | inr h6 ↦ elim (chosen (same_text w (codes "all")) (Some OnAll) _ s h6) [
            | inl k ↦ word_is w (codes "all") k.0 ∙ ap slots_word (some_is k.1)
            | inr k ↦ absurd (not_some k)
          ]
        ]
      ]
    ]
  ]
]

renaming_found : (w : List ℕ) (r : Bool) → renaming_of w ≡ Some r → w ≡ renaming_word r
renaming_found w r h = elim (chosen (same_text w (codes "keep")) (Some false) _ r h) [
  | inl k ↦ word_is w (codes "keep") k.0 ∙ ap renaming_word (some_is k.1)
  | inr j ↦ elim (chosen (same_text w (codes "rename")) (Some true) _ r j) [
    | inl k ↦ word_is w (codes "rename") k.0 ∙ ap renaming_word (some_is k.1)
    | inr k ↦ absurd (not_some k)
  ]
]

behind_found : (mark f t : List ℕ) → behind mark f ≡ Some t → f ≡ mark ++ t
behind_found mark f t h = elim (chosen (starts_with nat_eq f mark) (Some (drop (length mark) f)) None t h) [
  | inl k ↦ (starts_is unsigned_Decides f mark (starts_with nat_eq f mark) refl).0 k.0
      ∙ ap (λ r. mark ++ r) (some_is k.1)
  | inr k ↦ absurd (not_some k)
]

text_found : (t : List ℕ) (u : UidParts) (r : Result (Option UidParts) ParseErrors) → uid_reading t ≡ r
    → read_uid r ≡ Some u → IsPrinted u t
text_found t u (Ok o) e h = uid_found t u (e ∙ ap Ok h)
text_found t u (Err x) e h = absurd (not_some h)

bound_found : (s : SlotId) (f t : List ℕ) (b : SlotId × UidParts) → f ≡ slot_mark s ++ t → bound_as s t ≡ Some b
    → IsBinding b.0 b.1 f
bound_found s f t b e h =
    let m = mapped {X = UidParts} {Y = SlotId × UidParts} (λ u. (s, u)) (uid_read t) b h in
    subst (λ (x : SlotId × UidParts). IsBinding x.0 x.1 f) m.2 (t, text_found t m.0 (uid_reading t) refl m.1, e)

by_mark : (s : SlotId) (f : List ℕ) (b : SlotId × UidParts) (p : Option (List ℕ)) (o : Option (SlotId × UidParts))
    → behind (slot_mark s) f ≡ p → (o ≡ Some b → IsBinding b.0 b.1 f) → bound_by s p o ≡ Some b → IsBinding b.0 b.1 f
by_mark s f b (Some t) o e k h = bound_found s f t b (behind_found (slot_mark s) f t e) h
by_mark s f b None o e k h = k h

among_found : (ss : List SlotId) (f : List ℕ) (b : SlotId × UidParts) → binding_among ss f ≡ Some b
    → IsBinding b.0 b.1 f
among_found [] f b h = absurd (not_some h)
among_found (s ∷ ss) f b h = by_mark s f b (behind (slot_mark s) f) (binding_among ss f) refl (among_found ss f b) h

-- If one field is not a further binding, the fields are not bindings.
pub none_goes_on : (fs : List (List ℕ)) → bindings_from None fs ≡ None
none_goes_on [] = refl
none_goes_on (f ∷ fs) = none_goes_on fs

by_binding : (d : EnvParts) (f : List ℕ) (fs : List (List ℕ)) (e : EnvParts) (o : Option (SlotId × UidParts))
    → binding_of f ≡ o
    → ((c : EnvParts) → bindings_from (Some c) fs ≡ Some e → BindMore c fs e)
    → bindings_from (with_binding d o) fs ≡ Some e → BindMore d (f ∷ fs) e
by_binding d f fs e None is more h = absurd (not_some (sym (none_goes_on fs) ∙ h))
by_binding d f fs e (Some b) is more h = by_free (binds d b.0) refl h
  where
    by_free : (t : Bool) → binds d b.0 ≡ t → bindings_from (if t then None else Some (bound_more d b.0 b.1)) fs ≡ Some e
        → BindMore d (f ∷ fs) e
    by_free true free k = absurd (not_some (sym (none_goes_on fs) ∙ k))
    by_free false free k = (b.0, b.1, among_found all_slots f b is, free, more (bound_more d b.0 b.1) k)

more_found : (fs : List (List ℕ)) (d e : EnvParts) → bindings_from (Some d) fs ≡ Some e → BindMore d fs e
more_found [] d e h = sym (some_is h)
more_found (f ∷ fs) d e h = by_binding d f fs e (binding_of f) refl (λ c. more_found fs c e) h

bindings_found : (fs : List (List ℕ)) (e : EnvParts) → bindings_of fs ≡ Some e → AreBindings e fs
bindings_found fs e h = more_found fs no_env e h

only_is : (fs : List (List ℕ)) (w : List ℕ) → only fs ≡ Some w → fs ≡ w ∷ []
only_is [] w h = absurd (not_some h)
only_is (f ∷ []) w h = ap (λ x. x ∷ []) (some_is h)
only_is (f ∷ g ∷ fs) w h = absurd (not_some h)

static_found : (fs : List (List ℕ)) (c : PolicyCommand) → static_of fs ≡ Some c
    → IsPolicyCommand c (codes "static" ∷ fs)
static_found [] c h = absurd (not_some h)
static_found (i ∷ fs) c h =
    let m = mapped (Static i) (option_and_then effect_of (only fs)) c h in
    let n = gone_on effect_of (only fs) m.0 m.1 in
    subst (λ d. IsPolicyCommand d (codes "static" ∷ i ∷ fs)) m.2
    (ap (λ l. codes "static" ∷ i ∷ l) (only_is fs n.0 n.1 ∙ ap (λ w. w ∷ []) (effect_found n.0 m.0 n.2)))

template_found : (fs : List (List ℕ)) (c : PolicyCommand) → template_of fs ≡ Some c
    → IsPolicyCommand c (codes "template" ∷ fs)
template_found [] c h = absurd (not_some h)
template_found (i ∷ fs) c h =
    let m = mapped (Template i) (option_and_then slots_of (only fs)) c h in
    let n = gone_on slots_of (only fs) m.0 m.1 in
    subst (λ d. IsPolicyCommand d (codes "template" ∷ i ∷ fs)) m.2
    (ap (λ l. codes "template" ∷ i ∷ l) (only_is fs n.0 n.1 ∙ ap (λ w. w ∷ []) (slots_found n.0 m.0 n.2)))

link_found : (fs : List (List ℕ)) (c : PolicyCommand) → link_of fs ≡ Some c → IsPolicyCommand c (codes "link" ∷ fs)
link_found [] c h = absurd (not_some h)
link_found (t ∷ []) c h = absurd (not_some h)
link_found (t ∷ l ∷ fs) c h =
    let m = mapped (Link t l) (bindings_of fs) c h in
    subst (λ d. IsPolicyCommand d (codes "link" ∷ t ∷ l ∷ fs)) m.2 (fs, bindings_found fs m.0 m.1, refl)

unlink_found : (fs : List (List ℕ)) (c : PolicyCommand) → unlink_of fs ≡ Some c
    → IsPolicyCommand c (codes "unlink" ∷ fs)
unlink_found fs c h =
    let m = mapped Unlink (only fs) c h in
    subst (λ d. IsPolicyCommand d (codes "unlink" ∷ fs)) m.2 (ap (λ l. codes "unlink" ∷ l) (only_is fs m.0 m.1))

merge_found : (fs : List (List ℕ)) (c : PolicyCommand) → merge_of fs ≡ Some c → IsPolicyCommand c (codes "merge" ∷ fs)
merge_found fs c h =
    let m = mapped Merge (option_and_then renaming_of (only fs)) c h in
    let n = gone_on renaming_of (only fs) m.0 m.1 in
    subst (λ d. IsPolicyCommand d (codes "merge" ∷ fs)) m.2
    (ap (λ l. codes "merge" ∷ l) (only_is fs n.0 n.1 ∙ ap (λ w. w ∷ []) (renaming_found n.0 m.0 n.2)))

bare_found : (w : List ℕ) (d : PolicyCommand) (fs : List (List ℕ)) (c : PolicyCommand) → IsPolicyCommand d (w ∷ [])
    → bare_of d fs ≡ Some c → IsPolicyCommand c (w ∷ fs)
bare_found w d [] c k h = subst (λ x. IsPolicyCommand x (w ∷ [])) (some_is h) k
bare_found w d (f ∷ fs) c k h = absurd (not_some h)

with_word : (w v : List ℕ) (fs : List (List ℕ)) (c : PolicyCommand) → same_text w v ≡ true → IsPolicyCommand c (v ∷ fs)
    → IsPolicyCommand c (w ∷ fs)
with_word w v fs c e h = subst (λ x. IsPolicyCommand c (x ∷ fs)) (sym (word_is w v e)) h

by_word : (w : List ℕ) (fs : List (List ℕ)) (c : PolicyCommand) → command_by w fs ≡ Some c → IsPolicyCommand c (w ∷ fs)
by_word w fs c h1 = elim (chosen (same_text w (codes "static")) (static_of fs) _ c h1) [
  | inl k ↦ with_word w (codes "static") fs c k.0 (static_found fs c k.1)
  | inr h2 ↦ elim (chosen (same_text w (codes "template")) (template_of fs) _ c h2) [
    | inl k ↦ with_word w (codes "template") fs c k.0 (template_found fs c k.1)
    | inr h3 ↦ elim (chosen (same_text w (codes "link")) (link_of fs) _ c h3) [
      | inl k ↦ with_word w (codes "link") fs c k.0 (link_found fs c k.1)
      | inr h4 ↦ elim (chosen (same_text w (codes "unlink")) (unlink_of fs) _ c h4) [
        | inl k ↦ with_word w (codes "unlink") fs c k.0 (unlink_found fs c k.1)
        | inr h5 ↦ elim (chosen (same_text w (codes "other")) (bare_of Other fs) _ c h5) [
          | inl k ↦ with_word w (codes "other") fs c k.0 (bare_found (codes "other") Other fs c refl k.1)
          | inr h6 ↦ elim (chosen (same_text w (codes "merge")) (merge_of fs) _ c h6) [
            | inl k ↦ with_word w (codes "merge") fs c k.0 (merge_found fs c k.1)
            | inr h7 ↦ elim (chosen (same_text w (codes "ids")) (bare_of Ids fs) None c h7) [
              | inl k ↦ with_word w (codes "ids") fs c k.0 (bare_found (codes "ids") Ids fs c refl k.1)
              | inr none ↦ absurd (not_some none)
            ]
          ]
        ]
      ]
    ]
  ]
]

-- Fields that are read as a command are the fields of the command.
pub read_is_command : (fs : List (List ℕ)) (c : PolicyCommand) → policy_command fs ≡ Some c → IsPolicyCommand c fs
read_is_command [] c h = absurd (not_some h)
read_is_command (w ∷ fs) c h = by_word w fs c h
