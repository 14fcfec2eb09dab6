use Rattle.std.proofs.Common.{ap, ◌∙◌, ◌||◌, refl}
use Rattle.std.specs.HashSet.{contains}
use Rattle.std.specs.List.{list_any}
use Rattle.std.specs.Set.{is_member}
use Rattle.cedar_ids.specs.UidOf.{same_uid}
use Rattle.cedar_entity_maps.specs.Modes.{is_ancestor_in}
use Rattle.cedar_entity_maps.specs.laws.EntityMap.{entity_at, held_map}
use Rattle.cedar_entity_maps.specs.laws.Seen.{stored}
use Rattle.cedar_entity_maps.proofs.index.walk_all.Goals as goal

pub returns-clause-ok : goal.returns-clause-ok
returns-clause-ok g c q =
    let m = c.args.entities.now in
    let A = c.args.uids.now.keys in
    c.in_ok-insert_uids-2.ensures.ok q
    ∙ ap (λ b. contains same_uid c.insert_uids.new.noted q || b) (c.in_ok-by.ensures q)
    ∙ ap (λ b. b || list_any (is_ancestor_in (entity_at m q)) A)
    (c.in_ok-insert_uids.ensures.ok q
    ∙ ap (λ ks. is_member same_uid ks q || is_member same_uid c.in_ok-listed.field-0.items q)
    c.with_hasher-affected.ensures.empty
    ∙ ap (λ l. is_member same_uid l q) c.in_ok-listed.ensures)
    ∙ ap (λ f. is_member same_uid A q || list_any (is_ancestor_in (f q)) A) (stored m (held_map m) refl)
