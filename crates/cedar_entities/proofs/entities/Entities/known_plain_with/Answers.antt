use Rattle.std.proofs.Common.{sym, subst}
use Rattle.cedar_entity_maps.specs.Plain.{StoreView}
use Rattle.cedar_entity_maps.specs.laws.EntityMap.{held_map}
use Rattle.cedar_entity_maps.specs.laws.Indexes.{IsIndexOf, IsPlainHeld}
use Rattle.cedar_entities.proofs.Indexes.{plain_at, plain_held}
use Rattle.cedar_entities.proofs.entities.Entities.known_plain_with.Goals as goal

pub invariant_of-result : goal.invariant_of-result
invariant_of-result g c = (
  c.self.invariant.0,
  subst (λ x. IsIndexOf x (held_map c.self.inside.entities)) (sym c.unlisted.ensures)
      (record {
        plain = λ t.
            let entity_at = subst (λ (v : StoreView). IsPlainHeld v.entities) c.other.view_is (c.other.invariant.1.plain t) in
            let p = plain_at c.args.other.now entity_at in
            let q = c.requires p.0 p.1 in
            subst (λ (v : StoreView). IsPlainHeld v.entities) (sym c.self.view_is) (plain_held q.0 c.args.self q.1);
        children = tt;
      }),
)
