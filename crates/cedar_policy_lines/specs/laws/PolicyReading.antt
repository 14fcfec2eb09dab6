-- Reading of a command on policy sets from its fields, as a function.
use Rattle.std.specs.Prelude.{ℕ, List, [], ◌∷◌, Bool, true, false, Option, Some, None, if◌then◌else◌, codes, length}
use Rattle.std.specs.Prelude.{drop, nat_eq, option_and_then, Result, Ok, Err}
use Rattle.std.specs.List.{starts_with}
use Rattle.std.specs.Option.{option_map}
use Rattle.cedar_ids.specs.Texts.{same_text}
use Rattle.cedar_ids.specs.Uid.{UidParts}
use Rattle.cedar_ids.specs.laws.UidReading.{uid_reading}
use Rattle.cedar_ids.specs.declared.err.ParseErrors.{ParseErrors}
use Rattle.cedar_terms.specs.declared.slot.SlotId.{SlotId}
use Rattle.cedar_terms.specs.SlotTree.{all_slots}
use Rattle.cedar_binding.specs.Bindings.{EnvParts, no_env, binds}
use Rattle.cedar_body.specs.declared.effect.Effect.{Effect}
use Rattle.cedar_body.specs.declared.effect.Effect.TheVariants.{Permit, Forbid}
use Rattle.cedar_policy_lines.specs.PolicyCommand.{PolicyCommand, Static, Template, Link, Unlink, Other, Merge, Ids}
use Rattle.cedar_policy_lines.specs.PolicyCommand.{slot_mark, bound_more}
use Rattle.cedar_policy_lines.specs.declared.field.TemplateSlots.{TemplateSlots}
use Rattle.cedar_policy_lines.specs.declared.field.TemplateSlots.TheVariants.{NoSlots, OnPrincipal, OnAction}
use Rattle.cedar_policy_lines.specs.declared.field.TemplateSlots.TheVariants.{OnResource, OnBoth, OnAll}

-- ---- Single fields

-- The effect with this word.
abbrev pub effect_of : List ℕ → Option Effect
effect_of w =
    if same_text w (codes "permit") then Some Permit else if same_text w (codes "forbid") then Some Forbid else None

-- The slots with this word.
abbrev pub slots_of : List ℕ → Option TemplateSlots
slots_of w =
    if same_text w (codes "none") then Some NoSlots
    else if same_text w (codes "principal") then Some OnPrincipal
    else if same_text w (codes "action") then Some OnAction
    else if same_text w (codes "resource") then Some OnResource
    else if same_text w (codes "both") then Some OnBoth
    else if same_text w (codes "all") then Some OnAll
    else None

-- Whether this word of a merge allows renaming.
abbrev pub renaming_of : List ℕ → Option Bool
renaming_of w =
    if same_text w (codes "keep") then Some false else if same_text w (codes "rename") then Some true else None

-- The uid with an ASCII eid in the result of reading a text.
abbrev pub read_uid : Result (Option UidParts) ParseErrors → Option UidParts
read_uid (Ok u) = u
read_uid (Err e) = None

-- The uid with this text, if its eid is ASCII.
abbrev pub uid_read : List ℕ → Option UidParts
uid_read t = read_uid (uid_reading t)

-- The rest of a text after this prefix.
abbrev pub behind : List ℕ → List ℕ → Option (List ℕ)
behind mark t = if starts_with nat_eq t mark then Some (drop (length mark) t) else None

-- A slot with the uid that has this text.
abbrev pub bound_as : SlotId → List ℕ → Option (SlotId × UidParts)
bound_as s t = option_map (λ u. (s, u)) (uid_read t)

-- The binding of the first slot whose mark is a prefix of the field.
abbrev pub bound_by : SlotId → Option (List ℕ) → Option (SlotId × UidParts) → Option (SlotId × UidParts)
bound_by s (Some t) o = bound_as s t
bound_by s None o = o

abbrev pub binding_among : List SlotId → List ℕ → Option (SlotId × UidParts)
binding_among [] f = None
binding_among (s ∷ ss) f = bound_by s (behind (slot_mark s) f) (binding_among ss f)

-- The slot and the uid of a field, if it is a binding.
abbrev pub binding_of : List ℕ → Option (SlotId × UidParts)
binding_of f = binding_among all_slots f

-- ---- Bindings

-- The bindings with one more, if its slot is not bound yet.
abbrev pub with_binding : EnvParts → Option (SlotId × UidParts) → Option EnvParts
with_binding d None = None
with_binding d (Some b) = if binds d b.0 then None else Some (bound_more d b.0 b.1)

abbrev pub bindings_from : Option EnvParts → List (List ℕ) → Option EnvParts
bindings_from o [] = o
bindings_from o (f ∷ fs) = bindings_from (option_and_then (λ d. with_binding d (binding_of f)) o) fs

-- The bindings of some fields, in any order, if each slot is bound at most once.
abbrev pub bindings_of : List (List ℕ) → Option EnvParts
bindings_of fs = bindings_from (Some no_env) fs

-- ---- The fields after each word

-- The field, if there is exactly one.
abbrev pub only : List (List ℕ) → Option (List ℕ)
only [] = None
only (f ∷ []) = Some f
only (f ∷ g ∷ fs) = None

-- The command `static`, from an id and an effect.
abbrev pub static_of : List (List ℕ) → Option PolicyCommand
static_of [] = None
static_of (i ∷ fs) = option_map (Static i) (option_and_then effect_of (only fs))

-- The command `template`, from an id and slots.
abbrev pub template_of : List (List ℕ) → Option PolicyCommand
template_of [] = None
template_of (i ∷ fs) = option_map (Template i) (option_and_then slots_of (only fs))

-- The command `link`, from the id of a template, a new id and bindings.
abbrev pub link_of : List (List ℕ) → Option PolicyCommand
link_of [] = None
link_of (t ∷ []) = None
link_of (t ∷ l ∷ fs) = option_map (Link t l) (bindings_of fs)

-- The command `unlink`, from an id.
abbrev pub unlink_of : List (List ℕ) → Option PolicyCommand
unlink_of fs = option_map Unlink (only fs)

-- The command `merge`, from `keep` or `rename`.
abbrev pub merge_of : List (List ℕ) → Option PolicyCommand
merge_of fs = option_map Merge (option_and_then renaming_of (only fs))

-- A command without arguments.
abbrev pub bare_of : PolicyCommand → List (List ℕ) → Option PolicyCommand
bare_of c [] = Some c
bare_of c (f ∷ fs) = None

-- The command with this word and these fields after it.
abbrev pub command_by : List ℕ → List (List ℕ) → Option PolicyCommand
command_by w fs =
    if same_text w (codes "static") then static_of fs
    else if same_text w (codes "template") then template_of fs
    else if same_text w (codes "link") then link_of fs
    else if same_text w (codes "unlink") then unlink_of fs
    else if same_text w (codes "other") then bare_of Other fs
    else if same_text w (codes "merge") then merge_of fs
    else if same_text w (codes "ids") then bare_of Ids fs
    else None

-- The command with these fields.
abbrev pub policy_command : List (List ℕ) → Option PolicyCommand
policy_command [] = None
policy_command (w ∷ fs) = command_by w fs
