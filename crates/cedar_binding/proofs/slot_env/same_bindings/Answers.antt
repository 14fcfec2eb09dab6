use Rattle.std.proofs.Common.{◌≡◌, ◌∙◌, sym, refl, Option, Some, None}
use Rattle.std.specs.HashMap.{HashMap, get, hash_map_eq}
use Rattle.std.specs.HashMap.Eq.{get_from_hash_map_eq, hash_map_eq_from_get}
use Rattle.std.specs.Option.{option_eq, option_map}
use Rattle.cedar_ids.specs.Uid.{uid_eq}
use Rattle.cedar_ids.specs.UidOf.{uid_parts, same_uid}
use Rattle.cedar_ids.specs.declared.entity.EntityUID.{EntityUID}
use Rattle.cedar_terms.specs.SlotTree.{same_slot}
use Rattle.cedar_terms.specs.declared.slot.SlotId.{SlotId}
use Rattle.cedar_terms.specs.laws.SlotIdLaws.{same_slot_equiv, of_each, at_each}
use Rattle.cedar_binding.specs.EnvEquality.{same_env}
use Rattle.cedar_binding.specs.Views.{env_of}
use Rattle.cedar_binding.specs.laws.Fits.{same_answer}
use Rattle.cedar_binding.proofs.slot_env.same_bindings.Goals as goal

-- Optional uids are equal if their optional parts are.
alike : (x y : Option EntityUID) → option_eq same_uid x y
    ≡ option_eq uid_eq (option_map uid_parts x) (option_map uid_parts y)
alike None None = refl
alike None (Some v) = refl
alike (Some u) None = refl
alike (Some u) (Some v) = refl

-- Maps are equal if they bind each slot to equal uids, and only then.
same_maps : {S : Type 0} (m n : HashMap SlotId EntityUID S) → hash_map_eq same_slot same_uid m n
    ≡ same_env (env_of m) (env_of n)
same_maps m n =
    same_answer (hash_map_eq same_slot same_uid m n) (same_env (env_of m) (env_of n))
    (λ h. of_each (λ s. option_eq uid_eq (env_of m s) (env_of n s))
    (λ s. sym (alike (get same_slot m s) (get same_slot n s))
    ∙ get_from_hash_map_eq same_slot same_uid same_slot_equiv m n h s))
    (λ h. hash_map_eq_from_get same_slot same_uid m n
    (λ s. alike (get same_slot m s) (get same_slot n s)
    ∙ at_each (λ s. option_eq uid_eq (env_of m s) (env_of n s)) h s))

pub returns : goal.returns
returns c = c.eq.ensures ∙ same_maps c.args.one.now c.args.other.now
