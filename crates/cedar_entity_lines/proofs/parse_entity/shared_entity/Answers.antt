use Rattle.std.proofs.Common.{[], ap, refl, subst, sym, ◌∙◌}
use Rattle.std.specs.FinSet as set
use Rattle.cedar_ids.specs.UidOf.{uid_order}
use Rattle.cedar_entity.specs.View.{EntityView}
use Rattle.cedar_entity_maps.specs.Plain.{HasNoIndirect, input_of}
use Rattle.cedar_entity_lines.proofs.parse_entity.shared_entity.Goals as goal

-- The shared entity is the one that was created.
pub returns-in-Ok : goal.returns-in-Ok
returns-in-Ok c ps is =
    let entity : set.FinSet uid_order → EntityView = λ p. record {
      uid = c.args.uid;
      attrs = [];
      tags = [];
      parents = p;
      indirect = set.empty;
    } in
    let made = c.in-Ok.ensures.ok ∙ c.with_parent_set.ensures ∙ ap entity is in
    (ap input_of made, subst HasNoIndirect (sym made) (λ q. set.contains-empty uid_order q))
