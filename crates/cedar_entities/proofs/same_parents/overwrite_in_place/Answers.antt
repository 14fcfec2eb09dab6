use Rattle.std.proofs.lemmas.Result.{on_ok_weaker}
use Rattle.cedar_entities.proofs.InPlace.{in_place}
use Rattle.cedar_entities.proofs.same_parents.overwrite_in_place.Goals as goal

pub returns-clause-ok : goal.returns-clause-ok
returns-clause-ok g c =
    on_ok_weaker c.overwrite_all.result
    (λ is. in_place c.args.entities.now c.overwrite_all.new.entities c.args.list.items c.in_ok-list.list.items c.in_ok-list.ensures.ok is)
    c.overwrite_all.ensures.ok
