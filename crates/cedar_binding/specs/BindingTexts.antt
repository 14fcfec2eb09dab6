-- The printed texts of bindings and of lists of slots.
use Rattle.std.specs.Prelude.{ℕ, List, [], ◌∷◌, ◌++◌, Bool, true, ◌&&◌, Option, Some, None, if◌then◌else◌, codes}
use Rattle.std.specs.List.{flat_map, list_all, list_any}
use Rattle.std.specs.Ordering.{is_lt}
use Rattle.cedar_ids.specs.Escape.{is_ascii}
use Rattle.cedar_ids.specs.Printed.{printed_uid}
use Rattle.cedar_ids.specs.Uid.{UidParts}
use Rattle.cedar_terms.specs.SlotTree.{all_slots, slot_cmp, slot_text}
use Rattle.cedar_terms.specs.declared.slot.SlotId.{SlotId}
use Rattle.cedar_binding.specs.Bindings.{EnvParts, binds, bound_to}

-- The text of one binding. For example, `?principal -> User::"alice"`.
abbrev pub binding_text : SlotId → UidParts → List ℕ
binding_text s u = slot_text s ++ (codes " -> " ++ printed_uid u)

-- Whether a smaller slot is bound.
abbrev pub bound_before : EnvParts → SlotId → Bool
bound_before e s = list_any (λ r. is_lt (slot_cmp r s) && binds e r) all_slots

-- A text, with a comma before it if `b` is true.
abbrev pub after_others : Bool → List ℕ → List ℕ
after_others b t = (if b then codes "," else []) ++ t

-- The text for one slot: its binding, with a comma first if a smaller slot is bound, or nothing if the slot is not
-- bound.
abbrev pub bound_text : SlotId → Bool → Option UidParts → List ℕ
bound_text s b None = []
bound_text s b (Some u) = after_others b (binding_text s u)

-- The texts for some slots, one after another.
abbrev pub bindings_text : EnvParts → List SlotId → List ℕ
bindings_text e slots = flat_map (λ s. bound_text s (bound_before e s) (bound_to e s)) slots

-- The text of bindings, in the order of the slots and separated by commas.
abbrev pub env_text : EnvParts → List ℕ
env_text e = bindings_text e all_slots

-- Whether the eid of an optional uid is ASCII.
abbrev pub is_ascii_bound : Option UidParts → Bool
is_ascii_bound None = true
is_ascii_bound (Some u) = is_ascii u.eid

-- Whether all bound eids are ASCII.
abbrev pub is_ascii_env : EnvParts → Bool
is_ascii_env e = list_all (λ s. is_ascii_bound (bound_to e s)) all_slots

-- The specified output of printing bindings: their text if all eids are ASCII, else unspecified.
abbrev pub env_output : EnvParts → Option (List ℕ)
env_output e = if is_ascii_env e then Some (env_text e) else None

-- The text of a slot after another one: a comma and the slot.
abbrev pub slot_after_comma : SlotId → List ℕ
slot_after_comma s = codes "," ++ slot_text s

-- The texts of slots, separated by commas without spaces.
abbrev pub slots_text : List SlotId → List ℕ
slots_text [] = []
slots_text (s ∷ ss) = slot_text s ++ flat_map slot_after_comma ss

-- The message for slots that are not bound.
abbrev pub unbound_text : List SlotId → List ℕ
unbound_text unbound = codes "the following slots were not provided as arguments: " ++ slots_text unbound

-- The message for bound ids that are not slots.
abbrev pub extra_text : List SlotId → List ℕ
extra_text extra =
    codes "the following slots were provided as arguments, but did not exist in the template: " ++ slots_text extra

-- The message for bound ids that are not slots, as a second sentence.
abbrev pub further_extra_text : List SlotId → List ℕ
further_extra_text extra =
    codes ". The following slots were provided as arguments, but did not exist in the template: " ++ slots_text extra

-- The message of an `ArityError`, from both lists. An empty list is not mentioned. If both are empty, the message is
-- that for unbound slots.
abbrev pub arity_text : List SlotId → List SlotId → List ℕ
arity_text unbound [] = unbound_text unbound
arity_text [] (x ∷ xs) = extra_text (x ∷ xs)
arity_text (u ∷ us) (x ∷ xs) = unbound_text (u ∷ us) ++ further_extra_text (x ∷ xs)
