-- The steps of an overwriting and of a removal.
use Rattle.std.specs.Prelude.{◌≡◌, ◌+◌, Bool, true, false, cond, ◌||◌, List, [], ◌∷◌, ◌++◌, Option, None}
use Rattle.std.proofs.Common.{ap, sym, refl, ◌∙◌}
use Rattle.std.specs.Option.{option_map}
use Rattle.std.specs.Set.{is_member}
use Rattle.cedar_ids.specs.UidOf.{same_uid}
use Rattle.cedar_ids.specs.declared.entity.EntityUID.{EntityUID}
use Rattle.cedar_entity.specs.declared.node.SharedEntity.{SharedEntity}
use Rattle.cedar_entity_maps.specs.laws.EntityMap.{shared}
use Rattle.cedar_entity.specs.View.{EntityView}
use Rattle.cedar_entity_maps.specs.laws.Lists.{member_push}

-- A removal.
out_at : (b : Bool) (o : Option SharedEntity) → option_map shared (cond b None o) ≡ cond b None (option_map shared o)
out_at true o = refl
out_at false o = refl

out_cases : (d k : Bool) (o : Option EntityView) → cond k None (cond d None o) ≡ cond (d || k) None o
out_cases true true o = refl
out_cases true false o = refl
out_cases false true o = refl
out_cases false false o = refl

-- One more entity is removed.
pub out_push : (first now new : Option EntityView) (done : List EntityUID) (k q : EntityUID)
    → now ≡ cond (is_member same_uid done q) None first → new ≡ cond (same_uid k q) None now
    → new ≡ cond (is_member same_uid (done ++ k ∷ []) q) None first
out_push first now new done k q so step =
    step ∙ ap (λ o. cond (same_uid k q) None o) so ∙ out_cases (is_member same_uid done q) (same_uid k q) first
    ∙ ap (λ b. cond b None first) (sym (member_push done k q))
