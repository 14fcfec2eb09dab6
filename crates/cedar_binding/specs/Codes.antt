-- The code by which a proof distinguishes bindings.
use Rattle.std.specs.Prelude.{◌≡◌, ℕ, zero, suc, List, [], ◌∷◌, Option, None, map, refl}
use Rattle.std.specs.Coded.{Coded, code_by, coded_list, coded_option}
use Rattle.cedar_ids.specs.Uid.{UidParts}
use Rattle.cedar_ids.specs.Codes.{uid_parts_code}
use Rattle.cedar_terms.specs.SlotTree.{all_slots, slot_index}
use Rattle.cedar_terms.specs.declared.slot.SlotId.{SlotId}
use Rattle.cedar_terms.specs.declared.slot.SlotId.TheVariants.{Principal, Action, Resource}
use Rattle.cedar_binding.specs.Bindings.{EnvParts}

-- The optional element of a list at an index. `None` after the end of the list.
abbrev pub at_place : {X : Type 0} → List (Option X) → ℕ → Option X
at_place [] n = None
at_place (x ∷ xs) zero = x
at_place (x ∷ xs) (suc n) = at_place xs n

-- The uid of each slot is at the slot's index.
pub uid_at_place : (e : EnvParts) (s : SlotId) → at_place (map e all_slots) (slot_index s) ≡ e s
uid_at_place e Principal = refl
uid_at_place e Action = refl
uid_at_place e Resource = refl

-- The code of bindings: the optional uids of the slots, in order.
abbrev pub env_code : Coded EnvParts
env_code =
    code_by (List (Option UidParts)) (coded_list (coded_option uid_parts_code))
    (λ e. map e all_slots) (λ us s. at_place us (slot_index s)) (λ e i s. uid_at_place e s i)
