-- The entities that an edit of some uids affects.
use Rattle.std.specs.Prelude.{◌≡◌, ◌||◌, List}
use Rattle.std.proofs.Common.{ap, ◌∙◌}
use Rattle.std.specs.List.{list_any}
use Rattle.std.specs.Set.{is_member}
use Rattle.cedar_ids.specs.UidOf.{same_uid}
use Rattle.cedar_ids.specs.declared.entity.EntityUID.{EntityUID}
use Rattle.cedar_entity_maps.specs.Affected.{is_affected}
use Rattle.cedar_entity_maps.specs.Modes.{ancestry}
use Rattle.cedar_entity_maps.specs.Plain.{EntityMap}
use Rattle.cedar_entity_maps.specs.laws.AnyOf.{any_alike}

-- Lists with the same members affect the same entities.
pub affected_alike : (D : EntityMap) (xs ys : List EntityUID)
    → ((q : EntityUID) → is_member same_uid xs q ≡ is_member same_uid ys q)
    → (q : EntityUID) → is_affected D xs q ≡ is_affected D ys q
affected_alike D xs ys same q = ap (λ b. b || list_any (ancestry D q) xs) (same q)
    ∙ ap (λ b. is_member same_uid ys q || b) (any_alike (ancestry D q) xs ys same)
