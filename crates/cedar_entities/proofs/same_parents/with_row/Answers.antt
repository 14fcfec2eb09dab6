use Rattle.std.proofs.Common.{◌≡◌, ◌∙◌, ◌||◌, ap, subst, sym}
use Rattle.std.specs.FinSet as set
use Rattle.cedar_ids.specs.UidOf.{uid_order}
use Rattle.cedar_uid_sets.specs.UidSets.{UidValues}
use Rattle.cedar_entity_maps.specs.Modes.{is_ancestor_in}
use Rattle.cedar_entity_maps.specs.laws.EntityMap.{entity_at, held_map}
use Rattle.cedar_entities.specs.laws.SameParents.{HasRowOf}
use Rattle.cedar_entities.proofs.InPlace.{row_given}
use Rattle.cedar_entities.proofs.same_parents.with_row.Goals as goal

pub returns-clause-ok : goal.returns-clause-ok
returns-clause-ok g c =
    let m = c.args.entities.now in
    let key = c.incoming.inside.uid in
    let row = c.insert_ancestors_at.new.row in
    subst (λ r. HasRowOf (held_map m) c.args.incoming r) (sym c.in_ok-widen.ensures.ok)
    (row_given m c.args.incoming c.incoming.inside.entity.value key row c.incoming.invariant c.incoming.view_is
    (λ b. c.in_ok-insert_ancestors_at.ensures b
    ∙ ap (λ x. x || is_ancestor_in (entity_at m key) b) (ap (λ (s : UidValues). set.contains s b) c.new-row.ensures
    ∙ set.contains-empty uid_order b)))
