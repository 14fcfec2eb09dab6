use Rattle.std.proofs.Common.{ap, refl, ◌∙◌, ◌||◌}
use Rattle.std.specs.Set.{is_member}
use Rattle.cedar_ids.specs.UidOf.{same_uid}
use Rattle.cedar_entity_maps.specs.Affected.{is_affected}
use Rattle.cedar_entity_maps.specs.Plain.{StoreView}
use Rattle.cedar_entity_maps.specs.laws.EntityMap.{held_map}
use Rattle.cedar_entities.proofs.AffectedUids.{affected_alike}
use Rattle.cedar_entities.proofs.entities.Entities.affected.Goals as goal

pub returns-clause-ok : goal.returns-clause-ok
returns-clause-ok g c q =
    let m = c.self.inside.entities in
    let us = c.args.uids.items in
    let ks = c.insert_uids.new.noted.keys in
    ap (λ l. is_member same_uid l q) c.in_ok-listed.ensures
    ∙ c.in_ok-affected.ensures.ok (held_map m) c.self.invariant.1 (λ x. refl) q
    ∙ affected_alike (held_map m) ks us
    (λ x. c.in_ok-insert_uids.ensures.ok x
    ∙ ap (λ l. is_member same_uid l x || is_member same_uid us x) c.with_hasher-edited.ensures.empty) q
    ∙ ap (λ (s : StoreView). is_affected s.entities us q) c.self.view_is
