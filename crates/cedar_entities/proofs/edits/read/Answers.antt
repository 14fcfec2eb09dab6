use Rattle.std.proofs.Common.{ap, refl, ◌∙◌, ◌||◌}
use Rattle.std.specs.Set.{is_member}
use Rattle.cedar_ids.specs.UidOf.{same_uid}
use Rattle.cedar_entity_maps.specs.laws.EntityMap.{held_map}
use Rattle.cedar_entities.proofs.Edited.{reading_of}
use Rattle.cedar_entities.proofs.edits.read.Goals as goal

pub returns-clause-ok : goal.returns-clause-ok
returns-clause-ok g c =
    let m = c.args.entities.now in
    let us = c.args.uids.items in
    reading_of m us c.insert_uids.new.noted.keys _ c.args.recompute_all c.in_ok-uids.ensures
    (λ q. c.in_ok-insert_uids.ensures.ok q
    ∙ ap (λ ks. is_member same_uid ks q || is_member same_uid us q) c.with_hasher-applied.ensures.empty)
    (c.in_ok-affected.ensures.ok (held_map m) c.list_if_it_pays.ensures.index (λ q. refl))
    c.in_ok-stale.ensures.who c.in_ok-stale.ensures.lost
