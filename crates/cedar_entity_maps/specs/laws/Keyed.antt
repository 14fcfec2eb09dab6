-- The entities of a map are stored under their uids after a change.
use Rattle.std.specs.Prelude.{◌≡◌, Bool, true, false, cond, Option, Some, None}
use Rattle.std.proofs.Common.{sym, subst, ◌∙◌}
use Rattle.std.specs.Option.{option_map, IfSome}
use Rattle.std.specs.HashMap.{HashMap, get}
use Rattle.cedar_ids.specs.UidOf.{same_uid}
use Rattle.cedar_ids.specs.laws.UidOfLaws.{same_uid_decides}
use Rattle.cedar_ids.specs.declared.entity.EntityUID.{EntityUID}
use Rattle.cedar_entity.specs.declared.node.SharedEntity.{SharedEntity}
use Rattle.cedar_entity_maps.specs.laws.EntityMap.{entity_at, shared, UidsMatch}
use Rattle.cedar_entity.specs.View.{EntityView}

-- If the keys are the uids of the entities, each entity is stored under its uid.
pub key_at : (q : EntityUID) (o : Option SharedEntity) → IfSome o (λ n. same_uid q (shared n).uid ≡ true)
    → IfSome (option_map shared o) (λ e. e.uid ≡ q)
key_at q None h = tt
key_at q (Some n) h = sym ((same_uid_decides q (shared n).uid).0 h)

-- If each entity is stored under its uid, the keys are the uids of the entities.
key_back : (q : EntityUID) (o : Option SharedEntity) → IfSome (option_map shared o) (λ e. e.uid ≡ q)
    → IfSome o (λ n. same_uid q (shared n).uid ≡ true)
key_back q None h = tt
key_back q (Some n) h = (same_uid_decides q (shared n).uid).1 (sym h)

pub map_keyed : (f : EntityView → EntityView) → ((e : EntityView) → (f e).uid ≡ e.uid)
    → (q : EntityUID) (o : Option EntityView) → IfSome o (λ e. e.uid ≡ q) → IfSome (option_map f o) (λ e. e.uid ≡ q)
map_keyed f k q None h = tt
map_keyed f k q (Some e) h = k e ∙ h

pub cond_holds : (P : EntityView → Type 0) (b : Bool) (o : Option EntityView) → IfSome o P → IfSome (cond b None o) P
cond_holds P true o h = tt
cond_holds P false o h = h

-- Changing entities, but not their uids, keeps them under their uids.
pub changed_match : {S : Type 0} (m n : HashMap EntityUID SharedEntity S) (f : EntityUID → EntityView → EntityView)
    → ((q : EntityUID) (e : EntityView) → (f q e).uid ≡ e.uid)
    → ((q : EntityUID) → entity_at n q ≡ option_map (f q) (entity_at m q)) → UidsMatch m → UidsMatch n
changed_match m n f keeps is h q =
    key_back q (get same_uid n q) (subst (λ o. IfSome o (λ e. e.uid ≡ q)) (sym (is q))
    (map_keyed (f q) (keeps q) q (entity_at m q) (key_at q (get same_uid m q) (h q))))

-- Removing entities keeps the others under their uids.
pub left_match : {S : Type 0} (m n : HashMap EntityUID SharedEntity S) (removed : EntityUID → Bool)
    → ((q : EntityUID) → entity_at n q ≡ cond (removed q) None (entity_at m q)) → UidsMatch m → UidsMatch n
left_match m n removed step h q =
    key_back q (get same_uid n q) (subst (λ o. IfSome o (λ e. e.uid ≡ q)) (sym (step q))
    (cond_holds (λ e. e.uid ≡ q) (removed q) (entity_at m q) (key_at q (get same_uid m q) (h q))))
